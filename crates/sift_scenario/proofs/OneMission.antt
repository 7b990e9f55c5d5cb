-- A document states at most one mission.
use Rattle.std.proofs.Common.{◌≡◌, ℕ, List, length, Some, refl, sym, ap, subst, ◌∙◌}
use Rattle.std.specs.List.{sum}
use Rattle.toml.specs.Data.{Members, get_member}
use Rattle.sift_lang.specs.Tree.{TaskTree}
use Rattle.sift_program.specs.Program.{ProgramTree, program_shapes}
use Rattle.sift_script.specs.Script.{outputs_of}
use Rattle.sift_mission.specs.Data.{MissionData}
use Rattle.sift_scenario.proofs.UniqueForms.{one_forms, one_trees}
use Rattle.sift_scenario.specs.Laws.{OneMission}
use Rattle.sift_scenario.specs.Mission.{IsStated}
use Rattle.sift_scenario.specs.Program.{IsProgramOf, roll_for}
use Rattle.sift_scenario.specs.Sensor.{sensor_words}
use Rattle.std.specs.Prelude.{codes, map}
use Rattle.sift_sections.specs.Clock.{clocks_in}
use Rattle.sift_document.specs.Document.{tables_in}
use Rattle.sift_sections.specs.Fault.{fault_in}
use Rattle.sift_sections.specs.Table.{schedules_by}
use Rattle.sift_scenario.proofs.Named.{AreTreesOf}
use Rattle.sift_scenario.specs.Task.{Form, counts_of, names_of, tasks_of, task_entries}

-- tasks state one program
one_program : (sensors : List (List ℕ)) (tasks : List Members) (one other : ProgramTree) → IsProgramOf sensors tasks one → IsProgramOf sensors tasks other → one ≡ other
one_program sensors tasks one other a b =
    let forms = one_forms tasks a.forms b.forms a.stated b.stated in
    let trees = one_trees (roll_for sensors tasks) b.forms one.tasks other.tasks
    (subst (λ (fs : List Form). AreTreesOf (roll_for sensors tasks) fs one.tasks) forms a.trees) b.trees in
    ap (λ (ts : List TaskTree). let p : ProgramTree = record { tasks = ts; starts = one.starts } in p) trees
    ∙ ap (λ (ws : List ℕ). let p : ProgramTree = record { tasks = other.tasks; starts = ws } in p) (a.starts ∙ sym b.starts)

-- the data that a document states, from its numbers and its program
abbrev pub data_from : Members → (units frames period : ℕ) → ProgramTree → MissionData
data_from d units frames period program =
    let sensors = length (sensor_words d) in
    let words = sum (counts_of (tasks_of d)) in record {
      units = units;
      frames = frames;
      period = period;
      layout = record { units = units; sensors = sensors; words = words };
      names = names_of (tasks_of d);
      program = program;
      tables = schedules_by (get_member (codes "table") d) units period (length (task_entries d));
      sensors = sensor_words d;
      clock = clocks_in units (get_member (codes "clock") d);
      script = record {
        faults = map fault_in (tables_in (get_member (codes "fault") d));
        layout = record { units = units; sensors = sensors; words = words };
        outputs = outputs_of (program_shapes sensors program);
        frames = frames;
      };
    }

-- what is stated is these data
from_stated : (d : Members) (m : MissionData) → IsStated d m → m ≡ data_from d m.units m.frames m.period m.program
from_stated d m stated = rw (stated.script, stated.layout, stated.sensors, stated.names, stated.clock, stated.tables) refl

-- so it is one
pub one_stated : (d : Members) (one other : MissionData) → IsStated d one → IsStated d other → one ≡ other
one_stated d one other a b =
    let units : Some one.units ≡ Some other.units = sym a.units ∙ b.units in
    let frames : Some one.frames ≡ Some other.frames = sym a.frames ∙ b.frames in
    let period : Some one.period ≡ Some other.period = sym a.period ∙ b.period in
    let program = one_program _ (tasks_of d) one.program other.program a.program b.program in
    let same_units : one.units ≡ other.units = cc units in
    let same_frames : one.frames ≡ other.frames = cc frames in
    let same_period : one.period ≡ other.period = cc period in
    from_stated d one a
    ∙ ap (λ (n : ℕ). data_from d n one.frames one.period one.program) same_units
    ∙ ap (λ (n : ℕ). data_from d other.units n one.period one.program) same_frames
    ∙ ap (λ (n : ℕ). data_from d other.units other.frames n one.program) same_period
    ∙ ap (λ (p : ProgramTree). data_from d other.units other.frames other.period p) program
    ∙ sym (from_stated d other b)

-- a document states at most one mission
pub one_mission : OneMission
one_mission d one other a b = one_stated d one other a.stated b.stated
