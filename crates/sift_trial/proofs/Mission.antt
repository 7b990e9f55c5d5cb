-- The mission that a drawn document states.
use Rattle.std.proofs.Common.{◌≡◌, ◌≢◌, ◌<◌, ◌≤◌, ◌+◌, ◌-◌, ◌*◌, ℕ, List, [], ◌∷◌, length, map, None, inl, inr, refl, sym, ap, subst, ◌∙◌, arith}
use Rattle.std.proofs.lemmas.List.FromFn.{get_or-range_with_len, length-map-range_with_len, length-range_with_len}
use Rattle.std.proofs.lemmas.List.{length-map}
use Rattle.std.proofs.lemmas.List.Elements.{All-map}
use Rattle.std.specs.List.{flat_map, range_with_len, sum}
use Rattle.std.specs.Prelude.{unwrap_or, codes}
use Rattle.toml.specs.Data.{Members, get_member}
use Rattle.sift_base.specs.Draw.{draw_at}
use Rattle.sift_base.specs.Word.{word_count}
use Rattle.sift_base.specs.Name.{IsName}
use Rattle.sift_base.specs.declared.slots.Layout.{Layout}
use Rattle.sift_gen.specs.Scenario.{fault_table, sensor_tables, task_tables}
use Rattle.sift_gen.specs.Tasks.{sensor_name, task_name}
use Rattle.sift_script.specs.Rules as scripts
use Rattle.sift_script.specs.Script.{Fault, outputs_of}
use Rattle.sift_table.specs.Laws.{PlainTablesAreGood}
use Rattle.sift_table.specs.Rules as tables
use Rattle.sift_table.specs.Rules.{report_lead}
use Rattle.sift_table.specs.Schedule.{agreed_in, hearing_delay, plain_of}
use Rattle.sift_document.specs.Rules.{AreKept, AreMatched, HoldsOf, Rule, rule}
use Rattle.sift_document.specs.Document.{tables_in}
use Rattle.sift_document.specs.laws.Order.{kept_joined}
use Rattle.sift_parse.specs.Roll.{Roll}
use Rattle.sift_program.specs.Program.{ProgramTree, program_shapes}
use Rattle.sift_mission.specs.Data.{MissionData, shapes_in}
use Rattle.sift_sections.specs.Table.{table_rules, schedules_by, shed_of}
use Rattle.sift_sections.specs.Clock.{clock_rules, clocks_in}
use Rattle.sift_sections.specs.Fault.{fault_in, fault_rules}
use Rattle.sift_scenario.specs.Mission.{IsLawful, HasGoodTables, IsMission, IsStated}
use Rattle.sift_scenario.specs.Program.{IsProgramOf, IsTreeOf, roll_for, turn_of}
use Rattle.sift_scenario.specs.Root.{root_rules, units_of, version_of}
use Rattle.sift_scenario.specs.Sensor.{sensor_names, sensor_rules, sensor_words, words_of}
use Rattle.sift_scenario.specs.Task.{Form, counts_of, names_of, start_words, task_entries, tasks_of, text, task_rules}
use Rattle.sift_trial.specs.Texts.{DrawnTasksAreBrief, DrawnTextsAreTasks, drawn_roll, drawn_sensors, drawn_tasks}
use Rattle.sift_trial.proofs.Faults.{among, early, fault_stated, faults_kept, unit_there}
use Rattle.sift_trial.proofs.Program.{drawn_trees, trees_allowed, trees_are, trees_long, trees_of_one_word}
use Rattle.sift_trial.proofs.Root.{document_of, frames_are, root_kept, units_are}
use Rattle.sift_trial.proofs.Script.{script_good}
use Rattle.sift_trial.proofs.Sensors.{sensors_are, sensors_kept}
use Rattle.sift_trial.proofs.Shapes.{AreOfOneWord, are_shapes, output_is, outputs_long, shapes_long}
use Rattle.sift_trial.proofs.Tables.{names_are}
use Rattle.sift_trial.proofs.Tasks.{all_known, counts_are, forms_are, forms_right, names_right, starts_right, tasks_are, tasks_long, text_at, words_right}
use Rattle.sift_trial.proofs.Sensors as sensing
use Rattle.sift_trial.proofs.Tasks as tasking

-- the rules of a document of so many units, by what they speak of
abbrev themes_for : (units : ℕ) → Members → List (List Rule)
themes_for units document =
    root_rules document
    ∷ clock_rules units (get_member (codes "clock") document)
    ∷ sensor_rules (get_member (codes "sensor") document)
    ∷ task_rules document
    ∷ table_rules (unwrap_or (version_of document) 0) units (get_member (codes "table") document)
    ∷ fault_rules (get_member (codes "fault") document)
    ∷ (rule 31 (λ place. HoldsOf (tables_in (get_member (codes "table") document)) place (λ table. shed_of table ≡ None)) ∷ [])
    ∷ []

-- counts that may be drawn
pub record MayBeDrawn (units frames sensors tasks : ℕ) : Type 0 where
  pub enough_units : 5 ≤ units
  pub few_units : units ≤ 8
  pub some_frames : 20 ≤ frames
  pub few_frames : frames ≤ 200
  pub some_sensor : 1 ≤ sensors
  pub few_sensors : sensors ≤ 8
  pub some_task : 1 ≤ tasks
  pub few_tasks : tasks ≤ 12

-- the names of the tasks and the sensors are names, and no two are one
pub record AreGoodNames (name : ℕ → List ℕ) (most : ℕ) : Type 0 where
  pub formed : (k : ℕ) → k < most → IsName (name k)
  pub differ : (i k : ℕ) → i < k → k < most → name i ≢ name k

-- what other laws tell
pub record AreKnown : Type 0 where
  pub texts : DrawnTextsAreTasks
  pub brief : DrawnTasksAreBrief
  pub plain : PlainTablesAreGood
  pub sensors : AreGoodNames sensor_name 8
  pub tasks : AreGoodNames task_name 12

module _
    (known : AreKnown) (units frames sensors tasks y z x : ℕ) (may : MayBeDrawn units frames sensors tasks) where
  -- the document
  abbrev d : Members
  d = document_of units frames (sensor_tables sensors y) (task_tables tasks sensors z) (fault_table units frames tasks x)

  -- ---- the rules

  -- the rules of the tasks are kept
  all_tasks_kept : AreKept (task_rules d)
  all_tasks_kept =
      let long = tasks_long tasks sensors z in (
        λ place broken. elim broken [
          | inl none ↦ none.1 (omega (arith, long, may.some_task), omega (arith, long, may.few_tasks))
          | inr entry ↦ all_known tasks sensors z place entry
        ],
        (
          names_right tasks sensors z (λ t low. known.tasks.formed t (omega (arith, low, may.few_tasks)))
              (λ i k before low. known.tasks.differ i k before (omega (arith, low, may.few_tasks))),
          (starts_right tasks sensors z, (words_right tasks sensors z may.few_tasks, (forms_right tasks sensors z, tt))),
        ),
      )

  -- there are no tables of which one could be bad
  no_tables : (version n : ℕ) → AreKept (table_rules version n None)
  no_tables version n = (λ place broken. broken, (λ place found. absurd (cc found.there), (λ place found. absurd (cc found.there), tt)))

  -- so all rules are kept
  lawful : IsLawful d
  lawful =
      kept_joined (themes_for (unwrap_or (units_of d) 0) d) (
        root_kept units frames (sensor_tables sensors y) (task_tables tasks sensors z) (fault_table units frames tasks x)
            may.enough_units may.few_units may.some_frames may.few_frames,
        (
          tt,
          (
            sensors_kept sensors y may.few_sensors (λ k low. known.sensors.formed k (omega (arith, low, may.few_sensors)))
                (λ i k before low. known.sensors.differ i k before (omega (arith, low, may.few_sensors))),
            (
              all_tasks_kept,
              (
                no_tables (unwrap_or (version_of d) 0) (unwrap_or (units_of d) 0),
                (
                  faults_kept units frames tasks x may.enough_units may.few_units may.some_frames may.few_frames may.some_task may.few_tasks,
                  ((λ place found. absurd (cc found.there), tt), tt),
                ),
              ),
            ),
          ),
        ),
      )

  -- ---- the program

  -- the names that the loader hands to the texts
  sensors_named : sensor_names d ≡ drawn_sensors sensors
  sensors_named =
      ap names_of (sensors_are sensors y) ∙ names_are (sensing.entries_at sensors y) sensor_name sensors (λ k. refl)

  tasks_named : names_of (tasks_of d) ≡ drawn_tasks tasks
  tasks_named =
      ap names_of (tasks_are tasks sensors z) ∙ names_are (tasking.entries_at tasks sensors z) task_name tasks (λ k. refl)

  roll_is : roll_for (sensor_names d) (tasks_of d) ≡ drawn_roll sensors tasks 0
  roll_is = rw (sensors_named, tasks_named, counts_are tasks sensors z) refl

  -- the program
  abbrev program : ProgramTree
  program = record { tasks = drawn_trees known.texts known.brief tasks sensors z; starts = flat_map (λ task. unwrap_or (start_words task) []) (tasks_of d) }

  program_stated : IsProgramOf (sensor_names d) (tasks_of d) program
  program_stated =
      let forms : List Form = map (λ t. text (text_at tasks sensors z t)) (range_with_len 0 tasks) in record {
        starts = refl;
        forms = forms;
        stated = forms_are tasks sensors z;
        trees = subst (λ (r : Roll). AreMatched (λ task form tree. IsTreeOf (turn_of task r) form tree) forms program.tasks) (sym roll_is)
            (trees_are known.texts known.brief tasks sensors z may.some_sensor may.few_sensors may.few_tasks);
        allowed = trees_allowed known.texts known.brief tasks sensors z may.few_tasks;
      }

  -- ---- the mission

  -- the data that the document states
  abbrev pub mission : MissionData
  mission =
      let period = agreed_in + hearing_delay * length (task_entries d) + report_lead in
      let layout : Layout = record { units = units; sensors = length (sensor_words d); words = sum (counts_of (tasks_of d)) } in record {
        units = units;
        frames = frames;
        period = period;
        layout = layout;
        names = names_of (tasks_of d);
        program = program;
        tables = schedules_by (get_member (codes "table") d) units period (length (task_entries d));
        sensors = sensor_words d;
        clock = clocks_in units (get_member (codes "clock") d);
        script = record {
          faults = map fault_in (tables_in (get_member (codes "fault") d));
          layout = layout;
          outputs = outputs_of (program_shapes (length (sensor_words d)) program);
          frames = frames;
        };
      }

  stated : IsStated d mission
  stated = record {
    lawful = lawful;
    units = units_are units frames (sensor_tables sensors y) (task_tables tasks sensors z) (fault_table units frames tasks x) may.enough_units may.few_units;
    frames = frames_are units frames (sensor_tables sensors y) (task_tables tasks sensors z) (fault_table units frames tasks x) may.some_frames may.few_frames;
    period = refl;
    clock = refl;
    sensors = refl;
    names = refl;
    program = program_stated;
    layout = refl;
    tables = refl;
    script = refl;
  }

  -- ---- its tables and its script

  -- as many sensors have words
  sensors_long : length (sensor_words d) ≡ sensors
  sensors_long =
      length-map (tables_in (get_member (codes "sensor") d)) (λ sensor. unwrap_or (words_of sensor) [])
      ∙ ap length (sensors_are sensors y) ∙ length-map-range_with_len (sensing.entries_at sensors y) 0 sensors

  -- there is a tree for each task
  trees_here : length program.tasks ≡ tasks
  trees_here = trees_long known.texts known.brief tasks sensors z

  one_word : AreOfOneWord program.tasks
  one_word = trees_of_one_word known.texts known.brief tasks sensors z

  few_sensors : length (sensor_words d) ≤ 8
  few_sensors = omega (arith, sensors_long, may.few_sensors)

  few_trees : length program.tasks ≤ 24
  few_trees = omega (arith, trees_here, may.few_tasks)

  -- a shape for each task
  as_many_shapes : length (shapes_in mission).tasks ≡ length (task_entries d)
  as_many_shapes =
      shapes_long (length (sensor_words d)) program few_sensors few_trees one_word ∙ trees_here ∙ sym (tasks_long tasks sensors z)

  -- the plain table of a size is good
  plain_good : (size : ℕ) → 3 ≤ size → tables.IsGood (plain_of size mission.period (length (task_entries d))) (shapes_in mission)
  plain_good size enough =
      subst (λ n. tables.IsGood (plain_of size mission.period n) (shapes_in mission)) as_many_shapes
      (known.plain size mission.period (shapes_in mission) enough
      (are_shapes (length (sensor_words d)) program few_sensors few_trees one_word) (omega (arith, as_many_shapes)))

  good_tables : HasGoodTables mission
  good_tables =
      let count = units + 1 - 4 in
      All-map (λ table. tables.IsGood table (shapes_in mission)) (λ size. plain_of size mission.period (length (task_entries d))) (range_with_len 4 count)
      (λ k d low. rw (get_or-range_with_len 4 count k d (rw length-range_with_len at low)) (plain_good (4 + k) (omega arith)))

  good_script : scripts.IsGood mission.script
  good_script =
      let outputs = mission.script.outputs in
      let long = outputs_long (length (sensor_words d)) program few_sensors few_trees one_word in
      let unit = draw_at x 0 units in
      let task = draw_at x 2 tasks in
      let there = unit_there units frames tasks x may.enough_units may.few_units may.some_frames may.few_frames may.some_task may.few_tasks in
      let early_frame = early units frames tasks x may.enough_units may.few_units may.some_frames may.few_frames may.some_task may.few_tasks in
      let a_task = among units frames tasks x may.enough_units may.few_units may.some_frames may.few_frames may.some_task may.few_tasks in
      let here : task < length program.tasks = omega (arith, a_task, trees_here) in
      subst (λ (f : Fault). scripts.IsGood (record { faults = f ∷ []; layout = mission.layout; outputs = outputs; frames = frames }))
      (sym (fault_stated units frames tasks x may.enough_units may.few_units may.some_frames may.few_frames may.some_task may.few_tasks))
      (script_good mission.layout outputs frames unit (draw_at x 1 frames) task (draw_at x 3 word_count) may.enough_units may.few_units there early_frame
      (omega (arith, here, long)) (omega (arith, output_is (length (sensor_words d)) program few_sensors few_trees one_word task here)))

  -- this is the mission that the document states, with good tables and a good script
  pub is_mission : IsMission d mission
  is_mission = record { stated = stated; good_tables = good_tables; good_script = good_script }
