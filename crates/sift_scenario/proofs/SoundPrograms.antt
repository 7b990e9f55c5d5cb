-- The program that a document states is sound.
use Rattle.std.proofs.Common.{◌≡◌, ◌<◌, ◌≤◌, ℕ, length, Some, ap, ◌∙◌, arith}
use Rattle.std.proofs.lemmas.List.{length-map}
use Rattle.toml.specs.Data.{Members}
use Rattle.sift_program.specs.Program.{ProgramTree, IsSoundProgram}
use Rattle.sift_document.specs.Document.{members_of}
use Rattle.sift_document.specs.Rules.{AreKept}
use Rattle.sift_scenario.proofs.Periods.{task_number}
use Rattle.sift_scenario.proofs.Programs.{sound_program}
use Rattle.sift_scenario.proofs.Rolls.{few_words, sized}
use Rattle.sift_scenario.proofs.Starts.{starts_long}
use Rattle.sift_scenario.proofs.Themes.{kept_themes}
use Rattle.sift_scenario.specs.Mission.{IsLawful}
use Rattle.sift_scenario.specs.Program.{IsProgramOf}
use Rattle.sift_scenario.specs.Root.{units_of}
use Rattle.sift_scenario.specs.Sensor.{sensor_names}
use Rattle.sift_scenario.specs.Task.{task_entries, tasks_of, task_rules}

-- where the rules are kept, the program of a document's tasks is sound for its sensors
pub stated_is_sound : (document : Members) (units : ℕ) (program : ProgramTree) → units_of document ≡ Some units → IsLawful document
    → IsProgramOf (sensor_names document) (tasks_of document) program → IsSoundProgram (length (sensor_names document)) program
stated_is_sound document units program is lawful stated =
    let kept : AreKept (task_rules document) = (kept_themes document units is lawful).1.1.1.0 in
    let number = task_number document kept in
    let long = length-map (task_entries document) members_of in
    let some : 0 < length (tasks_of document) = omega (arith, number.0, long) in
    let few : length (tasks_of document) ≤ 24 = omega (arith, number.1, long) in
    sound_program (sensor_names document) (tasks_of document) (sized (tasks_of document) (sensor_names document) kept.1.1.0) stated.forms program.tasks
    stated.stated stated.trees program.starts (ap length stated.starts ∙ starts_long (tasks_of document))
    (few_words (tasks_of document) some kept.1.1.1.0) some few
