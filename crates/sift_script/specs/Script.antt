-- A fault script as contracts see it: which units fail, from which frame on, and how.
use Rattle.std.specs.Prelude.{ℕ, List, Option, map}
use Rattle.sift_base.specs.Shapes.{AllShapes}
use Rattle.sift_base.specs.declared.slots.Layout.{Layout}
use Rattle.sift_script.specs.declared.script.Entry.{Entry}
use Rattle.sift_script.specs.declared.script.Item.{Item}
use Rattle.sift_script.specs.declared.script.Plan.{Plan}
use Rattle.sift_script.specs.declared.script.Plan.TheVariants.{Say, Storm}
use Rattle.sift_script.specs.declared.script.Script.{Script}
use Rattle.sift_script.specs.declared.script.SlotKind.{SlotKind}

-- a change of what a faulty unit says in one slot to some receivers, in one frame or in all: to a word, or to nothing
pub record Change : Type 0 where
  pub kind : SlotKind
  pub index : ℕ
  pub word : ℕ
  pub to : List ℕ
  pub frame : Option ℕ
  pub value : Option ℕ

-- how a unit fails: it changes what it says, or it turns stray, and then so many strays are drawn from a number
pub data Failing : Type 0 where
  changing : List Change → Failing
  turning : ℕ → ℕ → Failing

-- a unit's fault: the unit, the first frame in which it is faulty, and how it fails
pub record Fault : Type 0 where
  pub unit : ℕ
  pub from : ℕ
  pub plan : Failing

-- faults, and the mission that they are for: its layout, how many output words each task has, and the number of frames
pub record FaultScript : Type 0 where
  pub faults : List Fault
  pub layout : Layout
  pub outputs : List ℕ
  pub frames : ℕ

-- ---- what the values of the code stand for

-- the change that an item stands for
abbrev pub change_of : Item → Change
change_of item = record { kind = item.kind; index = item.index; word = item.word; to = item.to.items; frame = item.frame; value = item.value }

-- the way of failing that a plan stands for
abbrev pub failing_of : Plan → Failing
failing_of (Say items) = changing (map change_of items.items)
failing_of (Storm number strays) = turning number strays

-- the fault that an entry stands for
abbrev pub fault_of : Entry → Fault
fault_of entry = record { unit = entry.unit; from = entry.from; plan = failing_of entry.plan }

-- the faults that a script stands for
abbrev pub faults_of : Script → List Fault
faults_of script = map fault_of script.entries.items

-- how many output words each task has
abbrev pub outputs_of : AllShapes → List ℕ
outputs_of shapes = map (λ task. task.outputs) shapes.tasks

-- a script for a mission
abbrev pub script_for : Script → Layout → AllShapes → ℕ → FaultScript
script_for script layout shapes frames = record { faults = faults_of script; layout = layout; outputs = outputs_of shapes; frames = frames }
