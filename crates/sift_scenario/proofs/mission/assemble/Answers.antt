use Rattle.std.proofs.Common.{◌≡◌, ℕ, Err, rules, length, refl, ◌∙◌, arith}
use Rattle.sift_base.specs.Shapes.{shapes_of}
use Rattle.sift_base.specs.declared.slots.Layout.{Layout}
use Rattle.sift_scenario.proofs.Assembling.{layout_read}
use Rattle.sift_scenario.proofs.Made.{compiled, fits, layout_fits, mission_is, program_sound, refused_script, refused_table, sensors_few, words_few}
use Rattle.sift_scenario.specs.declared.document.Entries.{Entries}
use Rattle.sift_scenario.specs.declared.program.Running.{Running}
use Rattle.sift_scenario.proofs.mission.assemble.Goals as goal

-- the layout of these numbers is that of the entries and the program
laid_out : (entries : Entries) (running : Running) (sensors words : ℕ) → sensors ≡ length entries.sensors.words.items → words ≡ length running.program.starts.items
    → (let l : Layout = record { units = entries.units; sensors = sensors; words = words } in l) ≡ layout_read entries running
laid_out entries running sensors words s w = rw (s, w) refl

-- the numbers of sensors and words are few
pub overflow_cast-layout : goal.overflow_cast-layout
overflow_cast-layout c =
    omega (arith, c.len.ensures, c.args.entries.sensors.words.ok.0, sensors_few c.requires.0 c.args.entries c.args.running c.requires.1 c.requires.2)

pub overflow_cast-layout-2 : goal.overflow_cast-layout-2
overflow_cast-layout-2 c = omega (arith, c.len-2.ensures, c.args.running.program.starts.ok.0, words_few c.requires.0 c.args.entries c.args.running c.requires.1 c.requires.2)

pub shapes_of-requires-clause-sensors : goal.shapes_of-requires-clause-sensors
shapes_of-requires-clause-sensors c =
    omega (arith, c.len.ensures, c.args.entries.sensors.words.ok.0, sensors_few c.requires.0 c.args.entries c.args.running c.requires.1 c.requires.2)

pub shapes_of-requires-clause-program : goal.shapes_of-requires-clause-program
shapes_of-requires-clause-program c =
    program_sound c.requires.0 c.args.entries c.args.running c.requires.1 c.requires.2 c.len.result (c.len.ensures ∙ c.args.entries.sensors.words.ok.0)

pub check_tables-requires : goal.check_tables-requires
check_tables-requires c = c.in_ok-shapes.ensures.fit

-- a table isn't good
pub returns-in_err-tables-clause-refused : goal.returns-in_err-tables-clause-refused
returns-in_err-tables-clause-refused c =
    let same : c.from_residual-in_err-tables.result ≡ Err c.in_err-tables.field-0.0 = search rules in
    rw same (λ document read runs. refused_table document c.args.entries c.args.running read runs _
    (laid_out c.args.entries c.args.running c.len.result c.len-2.result (c.len.ensures ∙ c.args.entries.sensors.words.ok.0) (c.len-2.ensures ∙ c.args.running.program.starts.ok.0))
    (shapes_of c.in_ok-shapes.shapes) c.in_ok-shapes.ensures.shapes c.in_err-tables.field-0.0 c.in_err-tables.ensures.refused)

pub check_script-requires-clause-layout : goal.check_script-requires-clause-layout
check_script-requires-clause-layout c =
    layout_fits c.requires.0 c.args.entries c.args.running c.requires.1 c.requires.2 _
    (laid_out c.args.entries c.args.running c.len.result c.len-2.result (c.len.ensures ∙ c.args.entries.sensors.words.ok.0) (c.len-2.ensures ∙ c.args.running.program.starts.ok.0))

pub check_script-requires-clause-shapes : goal.check_script-requires-clause-shapes
check_script-requires-clause-shapes c = c.in_ok-shapes.ensures.fit

-- the script isn't good
pub returns-in_err-script-clause-refused : goal.returns-in_err-script-clause-refused
returns-in_err-script-clause-refused c =
    let same : c.from_residual-in_err-script.result ≡ Err c.in_err-script.field-0.0 = search rules in
    rw same (λ document read runs. refused_script document c.args.entries c.args.running read runs _
    (laid_out c.args.entries c.args.running c.len.result c.len-2.result (c.len.ensures ∙ c.args.entries.sensors.words.ok.0) (c.len-2.ensures ∙ c.args.running.program.starts.ok.0))
    (shapes_of c.in_ok-shapes.shapes) c.in_ok-shapes.ensures.shapes c.in_ok-tables.tables.items c.in_ok-tables.ensures.same c.in_ok-tables.ensures.good
    c.in_err-script.field-0.0 c.in_err-script.ensures.refused)

-- the code is that of the tasks
pub of-requires-clause-compiled : goal.of-requires-clause-compiled
of-requires-clause-compiled c =
    compiled c.requires.0 c.args.entries c.args.running c.requires.1 c.requires.2 _
    (laid_out c.args.entries c.args.running c.len.result c.len-2.result (c.len.ensures ∙ c.args.entries.sensors.words.ok.0) (c.len-2.ensures ∙ c.args.running.program.starts.ok.0))

-- the parts fit
pub of-requires-clause-fit : goal.of-requires-clause-fit
of-requires-clause-fit c =
    fits c.requires.0 c.args.entries c.args.running c.requires.1 c.requires.2 _
    (laid_out c.args.entries c.args.running c.len.result c.len-2.result (c.len.ensures ∙ c.args.entries.sensors.words.ok.0) (c.len-2.ensures ∙ c.args.running.program.starts.ok.0))
    (shapes_of c.in_ok-shapes.shapes) c.in_ok-shapes.ensures.shapes c.in_ok-tables.tables.items c.in_ok-tables.ensures.same c.in_ok-tables.ensures.good
    c.in_ok-script.script c.in_ok-script.ensures.same c.in_ok-script.ensures.good

-- the mission is the document's
pub returns-clause-accepted : goal.returns-clause-accepted
returns-clause-accepted c = λ document read runs.
    rw c.of.ensures (mission_is document c.args.entries c.args.running read runs _
    (laid_out c.args.entries c.args.running c.len.result c.len-2.result (c.len.ensures ∙ c.args.entries.sensors.words.ok.0) (c.len-2.ensures ∙ c.args.running.program.starts.ok.0))
    (shapes_of c.in_ok-shapes.shapes) c.in_ok-shapes.ensures.shapes c.in_ok-tables.tables.items c.in_ok-tables.ensures.same c.in_ok-tables.ensures.good
    c.in_ok-script.script c.in_ok-script.ensures.same c.in_ok-script.ensures.good)
