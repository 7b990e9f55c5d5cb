use Rattle.std.proofs.Common.{ℕ, List, Some, below_more, map, take, sym, ◌∙◌, arith}
use Rattle.toml.specs.Data.{Members}
use Rattle.toml.specs.View.{table_view}
use Rattle.std.proofs.lemmas.List.{length-map, take_all}
use Rattle.sift_document.specs.laws.Places.{fails_here, holds_here, in_two_steps, nowhere, read_more}
use Rattle.sift_document.specs.laws.Testing.{first_broken}
use Rattle.sift_scenario.specs.Task.{IsNewName, name_of}
use Rattle.sift_scenario.proofs.entries.names_in.Goals as goal

-- no name is a new one of the entry at a place
abbrev NoNewName : List Members → ℕ → Members → Type 0
NoNewName tasks at task = (name : List ℕ) → ¬ IsNewName (map name_of (take at tasks)) task name

-- an entry has no name that it may have
pub returns-in-None-clause-tests : goal.returns-in-None-clause-tests
returns-in-None-clause-tests c =
    let earlier = c.loop-place.invariant.0 ∙ in_two_steps name_of (λ task. table_view task.now) c.loop-place.place c.args.tables.now in
    rw c.broken.ensures
    (first_broken c.args.rule _ _
    (holds_here (λ task. table_view task.now) c.args.tables.now (NoNewName (map (λ task. table_view task.now) c.args.tables.now)) _ _
    c.loop-place-test.true c.index-tables-place.is (rw (← earlier) (rw c.deref.ensures.value at c.in-None.ensures.none)))
    c.loop-place.invariant.1)

-- an entry more has one
pub loop-place-preserved : goal.loop-place-preserved
loop-place-preserved c =
    let earlier = c.loop-place.invariant.0 ∙ in_two_steps name_of (λ task. table_view task.now) c.loop-place.place c.args.tables.now in (
      read_more (λ name. Some name.bytes) (λ task. name_of (table_view task.now)) c.args.tables.now _ _ _ _ _
          c.loop-place-test.true c.index-tables-place.is c.loop-place.invariant.0 c.in_ok-push-in-Some.ensures.items
          (sym c.in-Some.ensures.found.stated),
      below_more _ _ c.loop-place.invariant.1
          (fails_here (λ task. table_view task.now) c.args.tables.now (NoNewName (map (λ task. table_view task.now) c.args.tables.now)) _ _
          c.loop-place-test.true c.index-tables-place.is (λ none. none c.in-Some.name.bytes (rw (← earlier) (rw c.deref.ensures.value at c.in-Some.ensures.found)))),
    )

-- all entries were read
pub returns-clause-tests : goal.returns-clause-tests
returns-clause-tests c =
    nowhere (λ task. table_view task.now) c.args.tables.now (NoNewName (map (λ task. table_view task.now) c.args.tables.now))
    (λ at low. c.loop-place.invariant.1 at (omega (arith, low, c.loop-place-test.false)))

pub returns-clause-names : goal.returns-clause-names
returns-clause-names c =
    c.loop-place.invariant.0 ∙ take_all c.loop-place.place (map (λ entry. name_of (table_view entry.now)) c.args.tables.now) (rw length-map c.loop-place-test.false)
