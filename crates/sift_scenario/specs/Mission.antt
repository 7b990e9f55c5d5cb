-- The rules of a document, in the order of their numbers, and the mission that it states.
use Rattle.std.specs.Prelude.{codes, List, [], ◌∷◌, ◌++◌, unwrap_or, ◌≡◌, Some, None, length, map, sum}
use Rattle.std.specs.List.{All}
use Rattle.toml.specs.Data.{Members, get_member}
use Rattle.sift_document.specs.Document.{tables_in}
use Rattle.sift_document.specs.Rules.{AreKept, HoldsOf, Rule, rule}
use Rattle.sift_script.specs.Rules as scripts
use Rattle.sift_script.specs.Script.{outputs_of}
use Rattle.sift_table.specs.Rules as tables
use Rattle.sift_mission.specs.Data.{MissionData, shapes_in}
use Rattle.sift_sections.specs.Clock.{clock_rules, clocks_in}
use Rattle.sift_sections.specs.Fault.{fault_rules, fault_in}
use Rattle.sift_scenario.specs.Root.{root_rules, units_of, version_of, frames_of, period_of}
use Rattle.sift_scenario.specs.Sensor.{sensor_rules, sensor_names, sensor_words}
use Rattle.sift_sections.specs.Table.{table_rules, schedules_by, shed_of}
use Rattle.sift_scenario.specs.Task.{task_rules, counts_of, names_of, task_entries, tasks_of}
use Rattle.sift_scenario.specs.Program.{IsProgramOf}

-- ---- all rules

-- all rules of a document
abbrev pub rules_of : Members → List Rule
rules_of document =
    root_rules document
    ++ clock_rules (unwrap_or (units_of document) 0) (get_member (codes "clock") document)
    ++ sensor_rules (get_member (codes "sensor") document)
    ++ task_rules document
    ++ table_rules (unwrap_or (version_of document) 0) (unwrap_or (units_of document) 0) (get_member (codes "table") document)
    ++ fault_rules (get_member (codes "fault") document)
    -- `shed` of a table is there, and is no array of integers from 0 to 23; this rule came with version 2
    ++ rule 31 (λ place. HoldsOf (tables_in (get_member (codes "table") document)) place (λ table. shed_of table ≡ None))
    ∷ []

-- the document keeps all rules
abbrev pub IsLawful : Members → Type 0
IsLawful document = AreKept (rules_of document)

-- ---- the mission

-- the document keeps all rules, its texts are tasks, and this is the data that it states
pub record IsStated (document : Members) (mission : MissionData) : Type 0 where
  pub lawful : IsLawful document
  pub units : units_of document ≡ Some mission.units
  pub frames : frames_of document ≡ Some mission.frames
  pub period : period_of document ≡ Some mission.period
  pub clock : mission.clock ≡ clocks_in mission.units (get_member (codes "clock") document)
  pub sensors : mission.sensors ≡ sensor_words document
  pub names : mission.names ≡ names_of (tasks_of document)
  pub program : IsProgramOf (sensor_names document) (tasks_of document) mission.program
  pub layout : mission.layout ≡ record {
    units = mission.units;
    sensors = length mission.sensors;
    words = sum (counts_of (tasks_of document));
  }
  pub tables :
      mission.tables ≡ schedules_by (get_member (codes "table") document) mission.units mission.period (length (task_entries document))
  pub script : mission.script ≡ record {
    faults = map fault_in (tables_in (get_member (codes "fault") document));
    layout = mission.layout;
    outputs = outputs_of (shapes_in mission);
    frames = mission.frames;
  }

-- each table of the mission is good for its tasks
abbrev pub HasGoodTables : MissionData → Type 0
HasGoodTables mission = All (λ table. tables.IsGood table (shapes_in mission)) mission.tables

-- this is the mission that the document states: its tables and its script are good
pub record IsMission (document : Members) (mission : MissionData) : Type 0 where
  pub stated : IsStated document mission
  pub good_tables : HasGoodTables mission
  pub good_script : scripts.IsGood mission.script
