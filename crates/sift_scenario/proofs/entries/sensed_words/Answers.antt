use Rattle.std.proofs.Common.{◌≡◌, Some, None, below_more, map, sym, ◌∙◌, arith}
use Rattle.std.proofs.lemmas.List.{length-map, take_all}
use Rattle.toml.specs.View.{table_view}
use Rattle.sift_document.specs.laws.Places.{fails_here, holds_here, nowhere, read_more}
use Rattle.sift_document.specs.laws.Testing.{first_broken}
use Rattle.sift_scenario.specs.Sensor.{words_of}
use Rattle.sift_scenario.proofs.entries.sensed_words.Goals as goal

-- a sensor has no words
pub returns-in-None-clause-tests : goal.returns-in-None-clause-tests
returns-in-None-clause-tests c =
    let none : None ≡ words_of (table_view c.index-tables-place.result.now) = rw c.in-None.is at c.in_ok-list.ensures in
    rw c.broken.ensures
    (first_broken 17 _ _
    (holds_here (λ sensor. table_view sensor.now) c.args.tables.now (λ at sensor. words_of sensor ≡ None) _ _
    c.loop-place-test.true c.index-tables-place.is (sym none))
    c.loop-place.invariant.1)

-- a sensor more has some
pub loop-place-preserved : goal.loop-place-preserved
loop-place-preserved c =
    let some : Some c.in-Some.list.items ≡ words_of (table_view c.index-tables-place.result.now) = rw c.in-Some.is at c.in_ok-list.ensures in (
      read_more (λ list. Some list.items) (λ sensor. words_of (table_view sensor.now)) c.args.tables.now _ _ _ _ _
          c.loop-place-test.true c.index-tables-place.is c.loop-place.invariant.0 c.in_ok-push-in-Some.ensures.items some,
      below_more _ _ c.loop-place.invariant.1
          (fails_here (λ sensor. table_view sensor.now) c.args.tables.now (λ at sensor. words_of sensor ≡ None) _ _
          c.loop-place-test.true c.index-tables-place.is (λ none. let wrong : Some _ ≡ None = some ∙ none in cc wrong)),
    )

-- all sensors were read
pub returns-clause-words : goal.returns-clause-words
returns-clause-words c =
    c.loop-place.invariant.0 ∙ take_all c.loop-place.place (map (λ sensor. words_of (table_view sensor.now)) c.args.tables.now) (rw length-map c.loop-place-test.false)

pub returns-clause-tests : goal.returns-clause-tests
returns-clause-tests c =
    nowhere (λ sensor. table_view sensor.now) c.args.tables.now (λ at sensor. words_of sensor ≡ None)
    (λ at low. c.loop-place.invariant.1 at (omega (arith, low, c.loop-place-test.false)))
