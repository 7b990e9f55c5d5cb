use Rattle.std.proofs.Common.{◌≡◌, Some, None, below_more, sym, ◌∙◌, arith, map}
use Rattle.toml.specs.View.{table_view}
use Rattle.std.proofs.lemmas.List.{length-map, take_all}
use Rattle.sift_document.specs.laws.Places.{fails_here, holds_here, nowhere, read_more}
use Rattle.sift_document.specs.laws.Testing.{first_broken}
use Rattle.sift_scenario.specs.Task.{start_words}
use Rattle.sift_scenario.proofs.entries.task_starts.Goals as goal

-- a task has no start words
pub returns-in-None-clause-tests : goal.returns-in-None-clause-tests
returns-in-None-clause-tests c =
    rw c.broken.ensures
    (first_broken 20 _ _
    (holds_here (λ task. table_view task.now) c.args.tasks.now (λ at task. start_words task ≡ None) _ _
    c.loop-place-test.true c.index-tasks-place.is (sym c.in-None.ensures))
    c.loop-place.invariant.1)

-- a task more has some
pub loop-place-preserved : goal.loop-place-preserved
loop-place-preserved c = (
  read_more (λ words. Some words.items) (λ task. start_words (table_view task.now)) c.args.tasks.now _ _ _ _ _
      c.loop-place-test.true c.index-tasks-place.is c.loop-place.invariant.0 c.in_ok-push-in-Some.ensures.items c.in-Some.ensures,
  below_more _ _ c.loop-place.invariant.1
      (fails_here (λ task. table_view task.now) c.args.tasks.now (λ at task. start_words task ≡ None) _ _
      c.loop-place-test.true c.index-tasks-place.is
      (λ none. let wrong : Some _ ≡ None = c.in-Some.ensures ∙ none in cc wrong)),
)

-- all tasks were read
pub returns-clause-tests : goal.returns-clause-tests
returns-clause-tests c =
    nowhere (λ task. table_view task.now) c.args.tasks.now (λ at task. start_words task ≡ None)
    (λ at low. c.loop-place.invariant.1 at (omega (arith, low, c.loop-place-test.false)))

pub returns-clause-starts : goal.returns-clause-starts
returns-clause-starts c =
    c.loop-place.invariant.0 ∙ take_all c.loop-place.place (map (λ task. start_words (table_view task.now)) c.args.tasks.now) (rw length-map c.loop-place-test.false)
