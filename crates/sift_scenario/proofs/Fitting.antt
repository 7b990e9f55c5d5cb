-- The parts of a mission that a document states fit.
use Rattle.std.proofs.Common.{◌≡◌, ◌≤◌, ◌<◌, ◌+◌, ℕ, List, [], length, sym, ap, subst, ◌∙◌, arith}
use Rattle.std.proofs.lemmas.List.{length-map}
use Rattle.std.specs.List.{All, sum}
use Rattle.std.specs.Prelude.{codes, unwrap_or}
use Rattle.toml.specs.Data.{Members, get_member}
use Rattle.sift_base.specs.Layout.{least_units}
use Rattle.sift_base.specs.Units.{unit_limit}
use Rattle.sift_base.specs.declared.slots.Layout.{Layout}
use Rattle.sift_script.specs.Rules as scripts
use Rattle.sift_script.specs.Script.{FaultScript}
use Rattle.sift_table.specs.Schedule.{Schedule}
use Rattle.sift_document.specs.laws.Order.{AreAllKept}
use Rattle.sift_document.specs.laws.Numbers.{between_at}
use Rattle.sift_program.specs.Program.{IsSoundProgram}
use Rattle.sift_mission.specs.Data.{Clocks, MissionData}
use Rattle.sift_mission.specs.PartsFit.{AreClocks, AreTables, HasWords, PartsFit, frame_limit, table_at}
use Rattle.sift_sections.proofs.lemmas.Sizes.{IsSized, schedule_at, schedules_long, schedules_sized}
use Rattle.sift_scenario.specs.Mission.{HasGoodTables, IsStated}
use Rattle.sift_scenario.specs.Laws.{StatedMissionsFit}
use Rattle.sift_scenario.specs.Root.{version_of}
use Rattle.sift_scenario.specs.Sensor.{sensor_names}
use Rattle.sift_scenario.specs.Task.{counts_of, name_of, task_entries, tasks_of}
use Rattle.sift_scenario.proofs.Clocks.{clocks_fit}
use Rattle.sift_scenario.proofs.Periods.{period_between}
use Rattle.sift_scenario.proofs.Sensing.{as_many_sensors, few_sensors, words_fit}
use Rattle.sift_scenario.proofs.SoundPrograms.{stated_is_sound}
use Rattle.sift_scenario.proofs.Starts.{starts_long}
use Rattle.sift_scenario.proofs.Themes.{kept_themes}
use Rattle.sift_scenario.proofs.Named.{themes_for}

module _
    (document : Members) (d : MissionData) (stated : IsStated document d) (good_tables : HasGoodTables d) (good_script : scripts.IsGood d.script) where
  -- the rules of each theme are kept
  themes : AreAllKept (themes_for d.units document)
  themes = kept_themes document d.units stated.units stated.lawful

  -- the numbers of units, frames and subframes
  units_between : (least_units ≤ d.units) × (d.units ≤ unit_limit)
  units_between = between_at least_units unit_limit (get_member (codes "units") document) d.units stated.units

  -- there are as many sensors as the layout says
  sensors_are : d.layout.sensors ≡ length (sensor_names document)
  sensors_are = ap (λ (l : Layout). l.sensors) stated.layout ∙ ap length stated.sensors ∙ as_many_sensors document

  -- the program is sound for them
  sound : IsSoundProgram d.layout.sensors d.program
  sound = rw sensors_are (stated_is_sound document d.units d.program stated.units stated.lawful stated.program)

  -- a table for each size
  sizes : (i : ℕ) → i < length d.tables → IsSized d.period (least_units + i) (table_at d i)
  sizes i low =
      let same = stated.tables in
      subst (λ (ts : List Schedule). IsSized d.period (least_units + i) (schedule_at ts i)) (sym same)
      (schedules_sized d.units d.period (length (task_entries document)) (unwrap_or (version_of document) 0)
      (get_member (codes "table") document) themes.1.1.1.1.0.0 i (rw (← same) low))

  tables_fit : AreTables d
  tables_fit =
      let long =
      ap length stated.tables
      ∙ schedules_long d.units d.period (length (task_entries document)) (unwrap_or (version_of document) 0)
      (get_member (codes "table") document) themes.1.1.1.1.0.0 in record {
        count = omega (arith, long, units_between.0);
        each = λ i low. record { sized = (sizes i low).sized; timed = (sizes i low).timed; good = good_tables i _ low };
      }

  -- all parts
  pub fit : PartsFit d
  fit =
      let frames = between_at 1 frame_limit (get_member (codes "frames") document) d.frames stated.frames in
      let period = period_between document d.period themes.1.1.1.0 stated.period in
      let sensors : length d.sensors ≤ 8 = omega (arith, ap length stated.sensors, as_many_sensors document, few_sensors document d.units stated.units stated.lawful) in
      let words : d.layout.words ≡ sum (counts_of (tasks_of document)) = ap (λ (l : Layout). l.words) stated.layout in
      let starts : length d.program.starts ≡ sum (counts_of (tasks_of document)) = ap length stated.program.starts ∙ starts_long (tasks_of document) in
      let names : length d.names ≡ length (tasks_of document) = ap length stated.names ∙ length-map (tasks_of document) (λ task. unwrap_or (name_of task) []) in record {
        limits = record {
          enough_units = units_between.0;
          few_units = units_between.1;
          some_frame = frames.0;
          few_frames = frames.1;
          long = period.0;
          short = period.1;
          few_sensors = sensors;
        };
        layout = record {
          units = ap (λ (l : Layout). l.units) stated.layout;
          sensors = ap (λ (l : Layout). l.sensors) stated.layout;
          words = words ∙ sym starts ∙ sound.a_start_each;
        };
        names = names ∙ sym stated.program.stated.as_many ∙ sym stated.program.trees.as_many;
        program = sound;
        sensors = subst (λ (ws : List (List ℕ)). All HasWords ws) (sym stated.sensors) (words_fit document d.units stated.units stated.lawful);
        tables = tables_fit;
        clock = subst (λ (clocks : Clocks). AreClocks d.units clocks) (sym stated.clock) (clocks_fit document d.units stated.units stated.lawful);
        script = record {
          layout = ap (λ (s : FaultScript). s.layout) stated.script;
          outputs = ap (λ (s : FaultScript). s.outputs) stated.script;
          frames = ap (λ (s : FaultScript). s.frames) stated.script;
          good = good_script;
        };
      }

-- the mission that a document states has parts that fit
pub stated_fit : StatedMissionsFit
stated_fit document d is = fit document d is.stated is.good_tables is.good_script
