-- The data that entries and their program make.
use Rattle.std.proofs.Common.{ℕ, List, length, map, sym, ap, ◌∙◌}
use Rattle.sift_base.specs.Stop.{IfRefused}
use Rattle.sift_base.specs.declared.stop.Stop.{Stop}
use Rattle.sift_base.specs.declared.stop.Stop.TheVariants as stop
use Rattle.std.proofs.lemmas.List.{length-map}
use Rattle.toml.specs.Data.{Members}
use Rattle.sift_base.specs.Shapes.{AllShapes}
use Rattle.sift_base.specs.declared.slots.Layout.{Layout}
use Rattle.sift_program.specs.Program.{program_of, program_shapes}
use Rattle.sift_script.specs.Script.{FaultScript, outputs_of, script_for}
use Rattle.sift_table.specs.Schedule.{Schedule, schedule_of}
use Rattle.sift_mission.specs.Parts as unit
use Rattle.sift_mission.specs.Data.{MissionData, shapes_in}
use Rattle.sift_scenario.proofs.Starts.{names_from, starts_long}
use Rattle.sift_scenario.specs.Mission.{HasGoodTables, IsStated}
use Rattle.sift_scenario.specs.Reading.{IsReadOf, IsRunningOf}
use Rattle.sift_scenario.specs.Refusal.{IsRefusedWith}
use Rattle.sift_scenario.specs.Task.{tasks_of}
use Rattle.sift_scenario.specs.Testing.{RefusesScript, RefusesTable}
use Rattle.sift_scenario.specs.declared.document.Entries.{Entries}
use Rattle.sift_scenario.specs.declared.program.Running.{Running}
use Rattle.sift_scenario.specs.declared.mission.Refused.{Refused}
use Rattle.sift_scenario.specs.declared.mission.Refused.TheVariants.{Scenario, Task, Table, Script}

-- the data of entries, their program, and a layout, tables and a script
abbrev pub made : Entries → Running → Layout → List Schedule → FaultScript → MissionData
made entries running layout tables script = record {
  units = entries.units;
  frames = entries.frames;
  period = entries.period;
  layout = layout;
  names = map (λ name. name.bytes) entries.tasks.names.items;
  program = program_of running.program;
  tables = tables;
  sensors = map (λ words. words.items) entries.sensors.words.items;
  clock = unit.clocks_of entries.clock;
  script = script;
}

-- the layout for these entries and their program
abbrev pub layout_read : Entries → Running → Layout
layout_read entries running = record {
  units = entries.units;
  sensors = length entries.sensors.words.items;
  words = length running.program.starts.items;
}

-- the script of these entries, for a layout and tasks of these shapes
abbrev pub script_read : Entries → Layout → AllShapes → FaultScript
script_read entries layout shapes = script_for entries.script layout shapes entries.frames

module _ (document : Members) (entries : Entries) (running : Running) (read : IsReadOf document entries) (runs : IsRunningOf document running) where
  -- what the entries make is what the document states
  pub is_stated : IsStated document (made entries running (layout_read entries running) (map schedule_of entries.tables.items)
      (script_read entries (layout_read entries running) (program_shapes (length entries.sensors.words.items) (program_of running.program))))
  is_stated = record {
    lawful = read.lawful;
    units = read.units;
    frames = read.frames;
    period = read.period;
    clock = read.clock;
    sensors = read.sensors.words;
    names = names_from (λ name. name.bytes) (tasks_of document) entries.tasks.names.items read.tasks.names;
    program = runs.stated;
    layout =
        ap (λ (n : ℕ). let l : Layout = record { units = entries.units; sensors = n; words = length running.program.starts.items } in l)
        (sym (length-map entries.sensors.words.items (λ words. words.items)))
        ∙ ap (λ (n : ℕ). let l : Layout = record { units = entries.units; sensors = length (map (λ words. words.items) entries.sensors.words.items); words = n } in l)
        (ap length runs.stated.starts ∙ starts_long (tasks_of document));
    tables = read.tables;
    script = ap (λ faults. let s : FaultScript = record {
      faults = faults;
      layout = layout_read entries running;
      outputs = outputs_of (program_shapes (length entries.sensors.words.items) (program_of running.program));
      frames = entries.frames;
    } in s) read.faults;
  }

-- ---- what refuses the data that a document states

module _ (document : Members) (mission : MissionData) (stated : IsStated document mission) where
  -- a table
  pub table_refused : (e : Stop Refused) → RefusesTable mission.tables (shapes_in mission) e → IfRefused (IsRefusedWith document) e
  table_refused (stop.Refused (Scenario n place)) bad = absurd bad
  table_refused (stop.Refused (Task t k at)) bad = absurd bad
  table_refused (stop.Refused (Table size row rule)) bad = (mission, stated, bad)
  table_refused (stop.Refused (Script entry rule)) bad = absurd bad
  table_refused stop.NoMemory bad = tt

  -- the script, where the tables are good
  pub script_refused : HasGoodTables mission → (e : Stop Refused) → RefusesScript mission.script e → IfRefused (IsRefusedWith document) e
  script_refused good (stop.Refused (Scenario n place)) bad = absurd bad
  script_refused good (stop.Refused (Task t k at)) bad = absurd bad
  script_refused good (stop.Refused (Table size row rule)) bad = absurd bad
  script_refused good (stop.Refused (Script entry rule)) bad = (mission, stated, good, bad)
  script_refused good stop.NoMemory bad = absurd bad
