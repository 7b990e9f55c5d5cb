-- What the loader, the script of faults and the clocks give of a mission, beside tables and layout.
use Rattle.std.specs.Prelude.{◌≡◌, ℕ, ◌+◌, ◌<◌, ◌≤◌, List, slice_get, slice_index, true, false, Some, None, pos, ◌+ℤ◌, ◌≤ℤ◌}
use Rattle.sift_base.specs.Units.{has}
use Rattle.sift_base.specs.declared.slots.Slot.{Slot}
use Rattle.sift_clock.specs.Distance.{IsWithin}
use Rattle.sift_lang.specs.Meaning.{meaning}
use Rattle.sift_lang.specs.Tree.{TaskTree}
use Rattle.sift_program.specs.Program.{ProgramTree, IsSoundProgram, first_word, output_count}
use Rattle.sift_skew.specs.Limits.{IsAdmitted}
use Rattle.sift_mission.specs.Data.{MissionData, FlownMission}
use Rattle.sift_mission.specs.Fits.{Fits}
use Rattle.sift_mission.specs.Flown.{flown}
use Rattle.sift_mission.specs.PartsFit.{PartsFit}
use Rattle.sift_mission.specs.Slots.{has_turned}

-- one unit works in each frame; who works has worked before, says its own words and hasn't turned
pub record IsScriptSound (m : FlownMission) : Type 0 where
  pub steady : (u : ℕ) × (has m.units u ≡ true) × ((f : ℕ) → m.works u f ≡ true)
  pub for_good : (u f later : ℕ) → f ≤ later → m.works u later ≡ true → m.works u f ≡ true
  pub own_words : (u f : ℕ) (k : Slot) (q : ℕ) → m.works u f ≡ true → m.override u f k q ≡ None
  pub whole : (u f : ℕ) → m.works u f ≡ true → has_turned m u f ≡ false

-- the clocks are admitted, their offsets at the start are within the skew, and drifts and errors of readings are within what is stated
pub record AreClocksSound (m : FlownMission) : Type 0 where
  pub admitted : IsAdmitted m.skew m.error m.rate m.length
  pub together : (u v : ℕ) → has m.units u ≡ true → has m.units v ≡ true → m.offset u ≤ℤ (m.offset v +ℤ m.skew)
  pub drifts : (u : ℕ) → has m.units u ≡ true → IsWithin m.rate (m.drift u) (pos 0)
  pub errors : (u v : ℕ) → has m.units u ≡ true → has m.units v ≡ true → IsWithin m.error (m.errors u v) (pos 0)

-- what flights stand on: the tables, the script and the clocks
pub record IsFlyable (m : FlownMission) : Type 0 where
  pub fits : Fits m
  pub script : IsScriptSound m
  pub clocks : AreClocksSound m

-- word w is one of the words of this task, which stand side by side from its first on
pub record IsAmong (program : ProgramTree) (t w : ℕ) : Type 0 where
  pub task : TaskTree
  pub at : slice_get program.tasks t ≡ Some task
  pub from : first_word program.tasks t ≤ w
  pub below : w < first_word program.tasks t + task.outputs

-- the mission's words are those of a program: each is one of its task's, and word i of a task is word i of its meaning
pub record RunsProgram (m : FlownMission) (program : ProgramTree) : Type 0 where
  pub sound : IsSoundProgram m.sensors program
  pub words : m.words ≡ output_count program.tasks
  pub starts : m.starts ≡ program.starts
  pub each : (w : ℕ) → w < m.words → IsAmong program (m.task w) w
  pub task : (t w : ℕ) → IsAmong program t w → m.task w ≡ t
  pub word : (t i : ℕ) (task : TaskTree) (ins now last : List ℕ) → slice_get program.tasks t ≡ Some task → i < task.outputs →
      m.word (first_word program.tasks t + i) ins now last ≡ slice_index (meaning task ins now last) i

-- ---- laws

-- the mission of data that fit meets what boards stand on
abbrev pub PartsMakeItFit : Type 0
PartsMakeItFit = (d : MissionData) → PartsFit d → Fits (flown d)

-- and all that flights stand on, and its words are those of its program
abbrev pub PartsMakeItFlyable : Type 0
PartsMakeItFlyable = (d : MissionData) → PartsFit d → IsFlyable (flown d) × RunsProgram (flown d) d.program
