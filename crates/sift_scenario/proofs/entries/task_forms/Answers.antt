use Rattle.std.proofs.Common.{◌≡◌, ◌<◌, ℕ, below_more, get_or, length, map, sym, ap, ◌∙◌, arith}
use Rattle.std.proofs.lemmas.List.{get_or-map, length-map, map-append}
use Rattle.std.proofs.lemmas.Grind.{common_steps}
use Rattle.toml.specs.Data.{Members}
use Rattle.toml.specs.View.{table_view}
use Rattle.sift_document.specs.laws.Places.{fails_here, holds_here, matches_more, nowhere, same_at, taken}
use Rattle.sift_document.specs.laws.Testing.{first_broken}
use Rattle.sift_scenario.specs.Task.{Form, HasForm, task_outputs}
use Rattle.sift_scenario.specs.Testing.{form_of}
use Rattle.sift_scenario.proofs.entries.task_forms.Goals as goal

-- the task has no form
abbrev IsFormless : ℕ → Members → Type 0
IsFormless at task = (form : Form) → ¬ HasForm task form

-- a task has as many words as start words
pub form_of-requires : goal.form_of-requires
form_of-requires c =
    let tables = map (λ task. table_view task.now) c.args.tasks.now in
    let low : c.loop-place.place < length tables = rw length-map c.loop-place-test.true in
    let as_many : length c.args.starts.now ≡ length tables =
    sym (length-map c.args.starts.now (λ words. length words.items)) ∙ ap length c.requires.starts ∙ length-map tables task_outputs in
    let here : table_view c.index-tasks-place.result.now ≡ get_or tables c.loop-place.place (table_view c.index-tasks-place.result.now) =
    sym (get_or-map (λ task. table_view task.now) c.args.tasks.now c.loop-place.place c.index-tasks-place.result _ c.loop-place-test.true
    ∙ ap (λ task. table_view task.now) (sym c.index-tasks-place.is)) in
    c.len.ensures.value
    ∙ same_at (λ words. length words.items) task_outputs c.args.starts.now tables c.loop-place.place c.index-starts-place.result _
    c.requires.starts (rw as_many low) c.index-starts-place.is low here

-- a task has none
pub returns-in-None-clause-tests : goal.returns-in-None-clause-tests
returns-in-None-clause-tests c =
    rw c.broken.ensures
    (first_broken 22 _ _
    (holds_here (λ task. table_view task.now) c.args.tasks.now IsFormless _ _
    c.loop-place-test.true c.index-tasks-place.is c.in-None.ensures.none)
    c.loop-place.invariant.3)

-- a task more has one
pub loop-place-preserved : goal.loop-place-preserved
loop-place-preserved c = (
  omega (arith, c.push_reserved.ensures.len, c.loop-place.invariant.0),
  omega (arith, c.push_reserved.ensures.capacity, c.loop-place.invariant.1),
  rw (c.push_reserved.ensures.items, map-append)
      (matches_more (λ place task form. HasForm task form) (map (λ task. table_view task.now) c.args.tasks.now)
      (map form_of c.loop-place.forms.items) c.loop-place.place _ _ c.loop-place.invariant.2
      (sym (length-map c.loop-place.forms.items form_of ∙ c.loop-place.invariant.0))
      (taken (λ task. table_view task.now) c.args.tasks.now _ _ c.loop-place-test.true c.index-tasks-place.is) c.in-Some.ensures.found),
  below_more _ _ c.loop-place.invariant.3
      (fails_here (λ task. table_view task.now) c.args.tasks.now IsFormless _ _
      c.loop-place-test.true c.index-tasks-place.is (λ none. none _ c.in-Some.ensures.found)),
)

-- all tasks were read
pub returns-clause-tests : goal.returns-clause-tests
returns-clause-tests c =
    nowhere (λ task. table_view task.now) c.args.tasks.now IsFormless
    (λ at low. c.loop-place.invariant.3 at (omega (arith, low, c.loop-place-test.false)))

pub loop-place-init : goal.loop-place-init
loop-place-init c = grind (arith, common_steps)

pub returns-clause-forms : goal.returns-clause-forms
returns-clause-forms c = record {
  as_many = omega (
    arith,
    length-map c.loop-place.forms.items form_of,
    length-map c.args.tasks.now (λ task. table_view task.now),
    c.loop-place.invariant.0,
    c.loop-place-test.false,
    c.loop-place.auto.place-end,
  );
  each = c.loop-place.invariant.2;
}

-- there are as many start words as tasks
pub bounds-starts-place : goal.bounds-starts-place
bounds-starts-place c =
    let tables = map (λ task. table_view task.now) c.args.tasks.now in
    let as_many : length c.args.starts.now ≡ length tables =
    sym (length-map c.args.starts.now (λ words. length words.items)) ∙ ap length c.requires.starts ∙ length-map tables task_outputs in
    rw (as_many, length-map) c.loop-place-test.true
