-- The mission that entries, their program, tables and a script make.
use Rattle.std.proofs.Common.{◌≡◌, ◌≤◌, ℕ, List, length, map, sym, ap, subst, ◌∙◌, arith}
use Rattle.std.proofs.lemmas.List.{length-map}
use Rattle.std.specs.List.{All}
use Rattle.std.specs.Prelude.{codes}
use Rattle.toml.specs.Data.{Members, get_member}
use Rattle.sift_base.specs.Stop.{IfRefused}
use Rattle.sift_base.specs.declared.stop.Stop.{Stop}
use Rattle.sift_base.specs.Layout.{IsLayout, least_units}
use Rattle.sift_base.specs.Shapes.{AllShapes}
use Rattle.sift_base.specs.Units.{unit_limit}
use Rattle.sift_base.specs.declared.slots.Layout.{Layout}
use Rattle.sift_script.specs.Rules as scripts
use Rattle.sift_script.specs.Script.{FaultScript}
use Rattle.sift_table.specs.Rules.{IsGood}
use Rattle.sift_table.specs.Schedule.{Schedule, schedule_of}
use Rattle.sift_document.specs.laws.Numbers.{between_at}
use Rattle.sift_compile.specs.Tasks.{AreCodesOf}
use Rattle.sift_program.specs.Program.{program_of, IsSoundProgram, program_shapes}
use Rattle.sift_mission.specs.PartsFit.{PartsFit}
use Rattle.sift_scenario.specs.Mission.{HasGoodTables, IsMission, IsStated}
use Rattle.sift_scenario.specs.Reading.{IsReadOf, IsRunningOf}
use Rattle.sift_scenario.specs.Refusal.{IsRefusedWith}
use Rattle.sift_scenario.specs.Sensor.{sensor_names}
use Rattle.sift_scenario.specs.Testing.{RefusesScript, RefusesTable}
use Rattle.sift_scenario.specs.declared.document.Entries.{Entries}
use Rattle.sift_scenario.specs.declared.program.Running.{Running}
use Rattle.sift_scenario.specs.declared.mission.Refused.{Refused}
use Rattle.sift_scenario.proofs.Assembling.{is_stated, layout_read, made, script_read, script_refused, table_refused}
use Rattle.sift_scenario.proofs.Fitting.{fit}
use Rattle.sift_scenario.proofs.Sensing.{as_many_sensors, few_sensors}
use Rattle.sift_scenario.proofs.SoundPrograms.{stated_is_sound}

module _ (document : Members) (entries : Entries) (running : Running) (read : IsReadOf document entries) (runs : IsRunningOf document running) where
  -- there are as many sensors as names of sensors, and they are few
  sensors_are : length entries.sensors.words.items ≡ length (sensor_names document)
  sensors_are = sym (length-map entries.sensors.words.items (λ words. words.items)) ∙ ap length read.sensors.words ∙ as_many_sensors document

  -- there are at most eight sensors
  pub sensors_few : length entries.sensors.words.items ≤ 8
  sensors_few = omega (arith, sensors_are, few_sensors document entries.units read.units read.lawful)

  sound : IsSoundProgram (length (sensor_names document)) (program_of running.program)
  sound = stated_is_sound document entries.units (program_of running.program) read.units read.lawful runs.stated

  -- there are few words
  pub words_few : length running.program.starts.items ≤ 64
  words_few = sound.few_words

  -- the program is sound for them
  pub program_sound : (sensors : ℕ) → sensors ≡ length entries.sensors.words.items → IsSoundProgram sensors (program_of running.program)
  program_sound sensors is = rw (is ∙ sensors_are) sound

  module _ (layout : Layout) (layout_is : layout ≡ layout_read entries running) where
    sensors_same : layout.sensors ≡ length entries.sensors.words.items
    sensors_same = ap (λ (l : Layout). l.sensors) layout_is

    -- the code is that of the tasks, for this layout
    pub compiled : AreCodesOf layout.sensors layout.words (program_of running.program).tasks running.code.items
    compiled = rw (sensors_same ∙ sensors_are, ap (λ (l : Layout). l.words) layout_is) runs.codes

    -- the layout is one that a mission may have
    pub layout_fits : IsLayout layout
    layout_fits =
        let units = between_at least_units unit_limit (get_member (codes "units") document) entries.units read.units in
        rw layout_is (record {
          enough_units = units.0;
          few_units = units.1;
          few_sensors = sensors_few;
          few_words = sound.few_words;
        })

    module _ (shapes : AllShapes) (shapes_are : shapes ≡ program_shapes layout.sensors (program_of running.program)) where
      -- what the document states, with its tables and script before they are checked
      made_stated : IsStated document (made entries running layout (map schedule_of entries.tables.items) (script_read entries layout shapes))
      made_stated = rw (shapes_are, layout_is) (is_stated document entries running read runs)

      -- a table is refused
      pub refused_table : (e : Stop Refused) → RefusesTable (map schedule_of entries.tables.items) shapes e → IfRefused (IsRefusedWith document) e
      refused_table e bad =
          table_refused document (made entries running layout (map schedule_of entries.tables.items) (script_read entries layout shapes)) made_stated e
          (subst (λ (s : AllShapes). RefusesTable (map schedule_of entries.tables.items) s e) shapes_are bad)

      module _ (tables : List Schedule) (same : tables ≡ map schedule_of entries.tables.items) (good : All (λ table. IsGood table shapes) tables) where
        good_tables : (script : FaultScript) → HasGoodTables (made entries running layout tables script)
        good_tables script = subst (λ (s : AllShapes). All (λ table. IsGood table s) tables) shapes_are good

        -- the script is refused
        pub refused_script : (e : Stop Refused) → RefusesScript (script_read entries layout shapes) e → IfRefused (IsRefusedWith document) e
        refused_script e bad =
            script_refused document (made entries running layout tables (script_read entries layout shapes)) (rw same made_stated)
            (good_tables (script_read entries layout shapes)) e bad

        module _ (script : FaultScript) (script_is : script ≡ script_read entries layout shapes) (good_script : scripts.IsGood script) where
          stated : IsStated document (made entries running layout tables script)
          stated = rw (same, script_is) made_stated

          -- the mission is the document's
          pub mission_is : IsMission document (made entries running layout tables script)
          mission_is = record { stated = stated; good_tables = good_tables script; good_script = good_script }

          -- its parts fit
          pub fits : PartsFit (made entries running layout tables script)
          fits = fit document (made entries running layout tables script) stated (good_tables script) good_script
