-- What is read of a document, and what is made of it. No public clause cites this module.
use Rattle.std.specs.Prelude.{codes, ◌≡◌, ◌<◌, ◌≤◌, List, [], Some, length, map, unwrap_or}
use Rattle.toml.specs.Data.{Members, get_member}
use Rattle.sift_base.specs.Shapes.{task_limit}
use Rattle.sift_document.specs.Document.{tables_in}
use Rattle.sift_compile.specs.Tasks.{AreCodesOf}
use Rattle.sift_program.specs.Program.{program_of}
use Rattle.sift_script.specs.Script.{faults_of}
use Rattle.sift_table.specs.Schedule.{schedule_of}
use Rattle.sift_mission.specs.Parts as unit
use Rattle.sift_scenario.specs.declared.document.Entries.{Entries}
use Rattle.sift_scenario.specs.declared.program.Running.{Running}
use Rattle.sift_scenario.specs.declared.entries.Sensors.{Sensors}
use Rattle.sift_scenario.specs.declared.entries.Tasks.{Tasks}
use Rattle.sift_sections.specs.Clock.{clocks_in}
use Rattle.sift_sections.specs.Fault.{fault_in}
use Rattle.sift_scenario.specs.Mission.{IsLawful}
use Rattle.sift_scenario.specs.Program.{IsProgramOf}
use Rattle.sift_scenario.specs.Root.{frames_of, period_of, units_of}
use Rattle.sift_scenario.specs.Sensor.{sensor_names, words_of}
use Rattle.sift_sections.specs.Table.{schedules_by}
use Rattle.sift_scenario.specs.Task.{AreForms, name_of, names_of, start_words, task_entries, tasks_of}
use Rattle.sift_scenario.specs.Testing.{form_of}

-- these are the names, the start words and the forms of a document's tasks, which are as many as may be
pub record AreTasksOf (document : Members) (tasks : Tasks) : Type 0 where
  pub some : 0 < length (tasks_of document)
  pub few : length (tasks_of document) ≤ task_limit
  pub names : map (λ name. Some name.bytes) tasks.names.items ≡ map name_of (tasks_of document)
  pub starts : map (λ words. Some words.items) tasks.starts.items ≡ map start_words (tasks_of document)
  pub forms : AreForms (tasks_of document) (map form_of tasks.forms.items)

-- these are the names and the words of the sensors in these tables
pub record AreSensorsIn (tables : List Members) (sensors : Sensors) : Type 0 where
  pub names : map (λ name. name.bytes) sensors.names.items ≡ names_of tables
  pub words : map (λ words. words.items) sensors.words.items ≡ map (λ sensor. unwrap_or (words_of sensor) []) tables

-- these are the names and the words of a document's sensors
abbrev pub AreSensorsOf : Members → Sensors → Type 0
AreSensorsOf document sensors = AreSensorsIn (tables_in (get_member (codes "sensor") document)) sensors

-- these are the entries of the document, which keeps all rules
pub record IsReadOf (document : Members) (entries : Entries) : Type 0 where
  pub lawful : IsLawful document
  pub units : units_of document ≡ Some entries.units
  pub frames : frames_of document ≡ Some entries.frames
  pub period : period_of document ≡ Some entries.period
  pub clock : unit.clocks_of entries.clock ≡ clocks_in entries.units (get_member (codes "clock") document)
  pub sensors : AreSensorsOf document entries.sensors
  pub tasks : AreTasksOf document entries.tasks
  pub tables :
      map schedule_of entries.tables.items
      ≡ schedules_by (get_member (codes "table") document) entries.units entries.period (length (task_entries document))
  pub faults : faults_of entries.script ≡ map fault_in (tables_in (get_member (codes "fault") document))

-- this is the program of the document's tasks, and this is its code
pub record IsRunningOf (document : Members) (running : Running) : Type 0 where
  pub stated : IsProgramOf (sensor_names document) (tasks_of document) (program_of running.program)
  pub codes : AreCodesOf (length (sensor_names document)) (length running.program.starts.items) (program_of running.program).tasks running.code.items
