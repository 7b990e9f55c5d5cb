use Rattle.std.proofs.Common.{◌≡◌, Err, rules, map, length, sym, subst, ◌∙◌, ap, arith, Some}
use Rattle.std.proofs.lemmas.List.{length-map}
use Rattle.sift_lang.specs.Tree.{tree_of}
use Rattle.sift_document.specs.laws.Order.{refused_from}
use Rattle.sift_parse.specs.Roll.{Roll, roll_of}
use Rattle.sift_scenario.specs.Refusal.{IsFirstRefused}
use Rattle.sift_scenario.specs.Testing.{AreTurns, form_of}
use Rattle.sift_scenario.specs.Task.{name_of, start_words, tasks_of}
use Rattle.sift_scenario.proofs.Read.{length_is, roll_read, running_from, sensors_few, task_refused, turns_are, words_are, words_few}
use Rattle.sift_scenario.proofs.Named.{AreTreesOf}
use Rattle.sift_scenario.proofs.program.run_entries.Goals as goal

-- the sensors and the start words are few
pub overflow_cast-len : goal.overflow_cast-len
overflow_cast-len c = omega (arith, c.len.ensures, c.args.entries.now.sensors.names.ok.0, sensors_few c.requires.0 c.args.entries.now c.requires.1)

pub overflow_cast-len-2 : goal.overflow_cast-len-2
overflow_cast-len-2 c =
    let starts = rw c.deref-4.ensures.value at c.in_ok-starts.ensures in
    let long = length_is c.requires.0 c.args.entries.now c.requires.1 _ starts in
    omega (arith, c.len-2.ensures, c.in_ok-starts.starts.ok.0, long, words_few c.requires.0 c.args.entries.now c.requires.1)

-- each task may take its turn
pub compile_tasks-requires-clause-turns : goal.compile_tasks-requires-clause-turns
compile_tasks-requires-clause-turns c =
    let roll : roll_of c.in_ok-names.names ≡ roll_read c.args.entries.now =
    rw (c.deref.ensures.value, c.deref-2.ensures.value, c.deref-3.ensures.value) at c.in_ok-names.ensures in
    subst (AreTurns (length c.deref-5.result.now)) (sym roll)
    (turns_are c.requires.0 c.args.entries.now c.requires.1 _ (ap length c.deref-5.ensures.value))

-- there are as many words as start words, and as many sensors as names
pub compile_tasks-requires-clause-words : goal.compile_tasks-requires-clause-words
compile_tasks-requires-clause-words c =
    let roll : roll_of c.in_ok-names.names ≡ roll_read c.args.entries.now =
    rw (c.deref.ensures.value, c.deref-2.ensures.value, c.deref-3.ensures.value) at c.in_ok-names.ensures in
    let starts = rw c.deref-4.ensures.value at c.in_ok-starts.ensures in
    rw (ap (λ (r : Roll). r.sizes) roll)
    (c.len-2.ensures ∙ c.in_ok-starts.starts.ok.0 ∙ words_are c.requires.0 c.args.entries.now c.requires.1 _ starts)

pub compile_tasks-requires-clause-sensors : goal.compile_tasks-requires-clause-sensors
compile_tasks-requires-clause-sensors c =
    let roll : roll_of c.in_ok-names.names ≡ roll_read c.args.entries.now =
    rw (c.deref.ensures.value, c.deref-2.ensures.value, c.deref-3.ensures.value) at c.in_ok-names.ensures in
    rw (ap (λ (r : Roll). r.sensors) roll, length-map) (c.len.ensures ∙ c.args.entries.now.sensors.names.ok.0)

-- a task is refused
pub returns-in_err-compiled-clause-refused : goal.returns-in_err-compiled-clause-refused
returns-in_err-compiled-clause-refused c =
    let same : c.from_residual-in_err-compiled.result ≡ Err c.in_err-compiled.field-0.0 = search rules in
    let roll : roll_of c.in_ok-names.names ≡ roll_read c.args.entries.now =
    rw (c.deref.ensures.value, c.deref-2.ensures.value, c.deref-3.ensures.value) at c.in_ok-names.ensures in
    rw same (λ document read. refused_from _ _ c.in_err-compiled.field-0.0 (λ refused first. task_refused document c.args.entries.now read refused
    (subst (λ (r : Roll). IsFirstRefused r (map form_of c.args.entries.now.tasks.forms.items) refused) roll first))
    (rw c.deref-5.ensures.value at c.in_err-compiled.ensures.refused))

-- there is a program
pub returns-clause-running : goal.returns-clause-running
returns-clause-running c = λ document read.
    let roll : roll_of c.in_ok-names.names ≡ roll_read c.args.entries.now =
    rw (c.deref.ensures.value, c.deref-2.ensures.value, c.deref-3.ensures.value) at c.in_ok-names.ensures in
    let forms = map form_of c.args.entries.now.tasks.forms.items in
    let trees = map tree_of c.in_ok-compiled.compiled.trees.items in
    running_from document c.args.entries.now read _ (rw c.deref-4.ensures.value at c.in_ok-starts.ensures)
    (subst (λ (r : Roll). AreTreesOf r forms trees) roll (rw c.deref-5.ensures.value at c.in_ok-compiled.ensures.trees))
    c.in_ok-compiled.ensures.allowed
    (rw (c.len.ensures ∙ c.args.entries.now.sensors.names.ok.0, c.len-2.ensures ∙ c.in_ok-starts.starts.ok.0) at c.in_ok-compiled.ensures.codes)

-- the tasks are few, and each has a name and start words
pub names_for-requires : goal.names_for-requires
names_for-requires c =
    let tasks = c.requires.1.tasks in
    let names = sym (length-map c.args.entries.now.tasks.names.items (λ name. Some name.bytes)) ∙ ap length tasks.names ∙ length-map (tasks_of c.requires.0) name_of in
    let starts = sym (length-map c.args.entries.now.tasks.starts.items (λ words. Some words.items)) ∙ ap length tasks.starts ∙ length-map (tasks_of c.requires.0) start_words in
    ap length c.deref-2.ensures.value ∙ names ∙ sym (ap length c.deref-3.ensures.value ∙ starts)

pub compile_tasks-requires-clause-few : goal.compile_tasks-requires-clause-few
compile_tasks-requires-clause-few c =
    let tasks = c.requires.1.tasks in
    omega (arith, ap length c.deref-5.ensures.value, length-map c.args.entries.now.tasks.forms.items form_of, tasks.forms.as_many, tasks.few)
