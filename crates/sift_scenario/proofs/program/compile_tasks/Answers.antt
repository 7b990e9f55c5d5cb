use Rattle.std.proofs.Common.{◌≡◌, ◌<◌, [], ◌∷◌, ◌++◌, length, map, Err, rules, refl, sym, subst, ◌∙◌, arith}
use Rattle.std.proofs.lemmas.List.{length-map, map-append}
use Rattle.sift_lang.specs.Tree.{tree_of}
use Rattle.sift_document.specs.laws.Order.{refused_from}
use Rattle.sift_document.specs.laws.Places.{matches_more, taken}
use Rattle.sift_parse.specs.Outcome.{AreNames}
use Rattle.sift_parse.specs.Roll.{Roll, roll_of}
use Rattle.sift_parse.specs.declared.task.Names.{Names}
use Rattle.sift_parse.proofs.lemmas.Sound.{has_words}
use Rattle.sift_scenario.specs.Program.{IsTreeOf, turn_of}
use Rattle.sift_scenario.specs.Refusal.{IsNoTask}
use Rattle.sift_scenario.specs.Testing.{form_of}
use Rattle.sift_scenario.proofs.Codes.{allowed_more, codes_more, left_more, sound_form}
use Rattle.sift_scenario.proofs.Turns.{code_first, same_turn, text_first}
use Rattle.sift_scenario.proofs.program.compile_tasks.Goals as goal

-- it is this task's turn
pub form_tree-requires : goal.form_tree-requires
form_tree-requires c =
    subst AreNames (sym (same_turn c.loop-task.names c.args.names.now c.loop-task.task c.loop-task.invariant.1 c.loop-task.invariant.2))
    (c.requires.turns c.loop-task.task c.loop-task-test.true)

-- its text is refused
pub returns-in_err-tree-clause-refused : goal.returns-in_err-tree-clause-refused
returns-in_err-tree-clause-refused c =
    let same : c.from_residual.result ≡ Err c.in_err-tree.field-0.0 = search rules in
    let turn = same_turn c.loop-task.names c.args.names.now c.loop-task.task c.loop-task.invariant.1 c.loop-task.invariant.2 in
    rw same (refused_from _ _ c.in_err-tree.field-0.0 (λ refused none. text_first (roll_of c.args.names.now) (map form_of c.args.forms.now) (map tree_of c.loop-task.trees.items)
    c.loop-task.task (form_of c.index-forms-task.result) refused (length-map c.loop-task.trees.items tree_of ∙ c.loop-task.invariant.0)
    c.loop-task.invariant.3 c.loop-task.invariant.4
    (taken form_of c.args.forms.now c.loop-task.task _ c.loop-task-test.true c.index-forms-task.is)
    (subst (λ (roll : Roll). IsNoTask roll c.loop-task.task (form_of c.index-forms-task.result) refused) turn none)) c.in_err-tree.ensures.refused)

-- its tree is sound
pub tree_code-requires-clause-sound : goal.tree_code-requires-clause-sound
tree_code-requires-clause-sound c =
    let turn = same_turn c.loop-task.names c.args.names.now c.loop-task.task c.loop-task.invariant.1 c.loop-task.invariant.2 in
    let names = c.requires.turns c.loop-task.task c.loop-task-test.true in
    let tree = subst (λ (roll : Roll). IsTreeOf roll (form_of c.index-forms-task.result) (tree_of c.in_ok-tree.tree)) turn c.in_ok-tree.ensures.tree in
    rw (c.requires.words, c.requires.sensors) (sound_form (turn_of c.loop-task.task (roll_of c.args.names.now)) (form_of c.index-forms-task.result) _ names
    (subst (λ (roll : Roll). roll.this < length roll.sizes) turn
    (has_words (let here : Names = record { sensors = c.loop-task.names.sensors; tasks = c.loop-task.names.tasks; this = c.loop-task.task } in here)
    (subst AreNames (sym turn) names))) tree)

-- its code isn't allowed
pub returns-in_err-code-clause-refused : goal.returns-in_err-code-clause-refused
returns-in_err-code-clause-refused c =
    let same : c.from_residual-in_err-code.result ≡ Err c.in_err-code.field-0.0 = search rules in
    let turn = same_turn c.loop-task.names c.args.names.now c.loop-task.task c.loop-task.invariant.1 c.loop-task.invariant.2 in
    rw same (refused_from _ _ c.in_err-code.field-0.0 (λ refused over. code_first (roll_of c.args.names.now) (map form_of c.args.forms.now) (map tree_of c.loop-task.trees.items)
    c.loop-task.task (form_of c.index-forms-task.result) refused (length-map c.loop-task.trees.items tree_of ∙ c.loop-task.invariant.0)
    c.loop-task.invariant.3 c.loop-task.invariant.4
    (taken form_of c.args.forms.now c.loop-task.task _ c.loop-task-test.true c.index-forms-task.is)
    (tree_of c.in_ok-tree.tree)
    (subst (λ (roll : Roll). IsTreeOf roll (form_of c.index-forms-task.result) (tree_of c.in_ok-tree.tree)) turn c.in_ok-tree.ensures.tree)
    over) (rw c.loop-task.invariant.5 at c.in_err-code.ensures.refused))

-- a task more has a tree, and code that is allowed
pub loop-task-preserved : goal.loop-task-preserved
loop-task-preserved c =
    let turn = same_turn c.loop-task.names c.args.names.now c.loop-task.task c.loop-task.invariant.1 c.loop-task.invariant.2 in
    let trees = map tree_of c.loop-task.trees.items in
    let tree = tree_of c.in_ok-tree.tree in
    let new : map tree_of c.push.new.self.items ≡ trees ++ tree ∷ [] = rw (c.in_ok-push.ensures.items, map-append) refl in
    let quick = c.in_ok-code.ensures.quick refl in (
      omega (arith, c.in_ok-push.ensures.len, c.loop-task.invariant.0),
      c.loop-task.invariant.1,
      c.loop-task.invariant.2,
      rw new
          (matches_more (λ task form t. IsTreeOf (turn_of task (roll_of c.args.names.now)) form t) (map form_of c.args.forms.now)
          trees c.loop-task.task _ _ c.loop-task.invariant.3
          (sym (length-map c.loop-task.trees.items tree_of ∙ c.loop-task.invariant.0))
          (taken form_of c.args.forms.now c.loop-task.task _ c.loop-task-test.true c.index-forms-task.is)
          (subst (λ (roll : Roll). IsTreeOf roll (form_of c.index-forms-task.result) tree) turn c.in_ok-tree.ensures.tree)),
      rw new (allowed_more trees tree c.loop-task.invariant.4 (c.in_ok-code.ensures.short refl, rw c.loop-task.invariant.5 at quick)),
      rw new (left_more trees tree c.loop-task.left c.bound-left.result _ c.loop-task.invariant.5 (rw c.stack.ensures at c.bound-left.ensures)
          c.in_ok-code.ensures.steps quick),
      rw new (codes_more c.args.sensors c.args.words trees tree _ _ _ c.loop-task.invariant.6 c.in_ok-push-2.ensures.items c.in_ok-code.ensures.code),
    )

-- there are few sensors and words
pub tree_code-requires-clause-few_sensors : goal.tree_code-requires-clause-few_sensors
tree_code-requires-clause-few_sensors c = rw c.requires.sensors (c.requires.turns c.loop-task.task c.loop-task-test.true).few_sensors

pub tree_code-requires-clause-few_words : goal.tree_code-requires-clause-few_words
tree_code-requires-clause-few_words c = rw c.requires.words (c.requires.turns c.loop-task.task c.loop-task-test.true).words

-- a task has a number, and some steps are left
pub tree_code-requires-clause-task : goal.tree_code-requires-clause-task
tree_code-requires-clause-task c = omega (arith, c.loop-task-test.true, c.requires.few)

pub tree_code-requires-clause-left : goal.tree_code-requires-clause-left
tree_code-requires-clause-left c = omega (arith, c.loop-task.invariant.5)

pub overflow_sub-left : goal.overflow_sub-left
overflow_sub-left c = omega (arith, rw c.stack.ensures at c.bound-left.ensures, c.in_ok-code.ensures.steps, c.in_ok-code.ensures.quick refl)

-- all tasks have a tree and code
pub returns-clause-trees : goal.returns-clause-trees
returns-clause-trees c = record {
  as_many = omega (
    arith,
    length-map c.loop-task.trees.items tree_of,
    length-map c.args.forms.now form_of,
    c.loop-task.invariant.0,
    c.loop-task-test.false,
    c.loop-task.auto.task-end,
  );
  each = c.loop-task.invariant.3;
}

pub returns-clause-allowed : goal.returns-clause-allowed
returns-clause-allowed c = c.loop-task.invariant.4

pub returns-clause-codes : goal.returns-clause-codes
returns-clause-codes c = c.loop-task.invariant.6
