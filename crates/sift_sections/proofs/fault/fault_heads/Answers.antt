use Rattle.std.proofs.Common.{◌≡◌, Some, None, inl, inr, below_more, map, sym, ◌∙◌, arith}
use Rattle.std.proofs.lemmas.List.{length-map, take_all}
use Rattle.toml.specs.View.{table_view}
use Rattle.sift_document.specs.laws.Places.{fails_here, holds_here, nowhere, read_more}
use Rattle.sift_document.specs.laws.Testing.{first_broken}
use Rattle.sift_sections.specs.Fault.{from_of, unit_of}
use Rattle.sift_sections.specs.laws.Named.{IsHeadless}
use Rattle.sift_sections.proofs.fault.fault_heads.Goals as goal

-- a fault has no unit, or no first frame
pub returns-in-None-clause-tests : goal.returns-in-None-clause-tests
returns-in-None-clause-tests c =
    rw c.broken.ensures
    (first_broken 27 _ _
    (holds_here (λ fault. table_view fault.now) c.args.tables.now (λ at. IsHeadless) _ _
    c.loop-place-test.true c.index-tables-place.is c.in-None.ensures.none)
    c.loop-place.invariant.2)

-- a fault more has both
pub loop-place-preserved : goal.loop-place-preserved
loop-place-preserved c = (
  read_more (λ head. Some head.unit) (λ fault. unit_of (table_view fault.now)) c.args.tables.now _ _ _ _ _
      c.loop-place-test.true c.index-tables-place.is c.loop-place.invariant.0 c.in_ok-push-in-Some.ensures.items (sym c.in-Some.ensures.unit),
  read_more (λ head. Some head.from) (λ fault. from_of (table_view fault.now)) c.args.tables.now _ _ _ _ _
      c.loop-place-test.true c.index-tables-place.is c.loop-place.invariant.1 c.in_ok-push-in-Some.ensures.items (sym c.in-Some.ensures.from),
  below_more _ _ c.loop-place.invariant.2
      (fails_here (λ fault. table_view fault.now) c.args.tables.now (λ at. IsHeadless) _ _
      c.loop-place-test.true c.index-tables-place.is (λ headless. elim headless [
        | inl none ↦ let wrong : Some _ ≡ None = sym c.in-Some.ensures.unit ∙ none in cc wrong
        | inr none ↦ let wrong : Some _ ≡ None = sym c.in-Some.ensures.from ∙ none in cc wrong
      ])),
)

-- all faults were read
pub returns-clause-units : goal.returns-clause-units
returns-clause-units c =
    c.loop-place.invariant.0 ∙ take_all c.loop-place.place (map (λ fault. unit_of (table_view fault.now)) c.args.tables.now) (rw length-map c.loop-place-test.false)

pub returns-clause-from : goal.returns-clause-from
returns-clause-from c =
    c.loop-place.invariant.1 ∙ take_all c.loop-place.place (map (λ fault. from_of (table_view fault.now)) c.args.tables.now) (rw length-map c.loop-place-test.false)

pub returns-clause-tests : goal.returns-clause-tests
returns-clause-tests c =
    nowhere (λ fault. table_view fault.now) c.args.tables.now (λ at. IsHeadless)
    (λ at low. c.loop-place.invariant.2 at (omega (arith, low, c.loop-place-test.false)))

pub broken-requires : goal.broken-requires
broken-requires c = omega (arith, c.loop-place-test.true, c.requires)
