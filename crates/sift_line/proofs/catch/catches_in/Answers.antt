use Rattle.std.proofs.Common.{◌≤◌, ◌∙◌, ◌++◌, ◌∷◌, [], length, map, take, sym, ap, arith}
use Rattle.std.proofs.lemmas.List.{length-map, length-take-le, map_more, take_all}
use Rattle.sift_base.specs.Units.{members}
use Rattle.sift_base.specs.laws.Sets.{few_members}
use Rattle.sift_exec.specs.Conviction.{everyone_in}
use Rattle.sift_line.specs.Bad.{catch_of}
use Rattle.sift_line.specs.declared.catch.Catch.{Catch}
use Rattle.sift_line.proofs.Catches.{catch_with}
use Rattle.sift_line.proofs.catch.catches_in.Goals as goal

pub push-requires : goal.push-requires
push-requires c =
    let units = c.as_slice-unit-items.result.now in
    let caught = c.args.caught.now in
    let few : length units ≤ 8 =
    rw (c.as_slice-unit-items.ensures.value, c.members_of-units.ensures, c.everyone.ensures) (few_members (everyone_in caught)) in (
      omega arith,
      omega (
        arith,
        few,
        c.loop-unit-test.true,
        ap length c.loop-unit.invariant,
        length-map (take c.loop-unit.unit-index units) (catch_of caught),
        length-take-le c.loop-unit.unit-index units (omega (arith, c.loop-unit-test.true)),
      ),
    )

pub loop-unit-preserved : goal.loop-unit-preserved
loop-unit-preserved c =
    let caught = c.args.caught.now in
    let units = c.as_slice-unit-items.result.now in
    let here = ap (catch_with c.unit-item.result) c.kinds_of.ensures in
    c.push.ensures.items
    ∙ (ap (λ list. list ++ catch_with c.unit-item.result c.kinds_of.result ∷ []) c.loop-unit.invariant
    ∙ (ap (λ (x : Catch). map (catch_of caught) (take c.loop-unit.unit-index units) ++ x ∷ []) here
    ∙ (ap (λ u. map (catch_of caught) (take c.loop-unit.unit-index units) ++ catch_of caught u ∷ []) c.unit-item.is
    ∙ sym (map_more (catch_of caught) units c.loop-unit.unit-index c.unit-item.result c.loop-unit-test.true))))

pub returns : goal.returns
returns c =
    let caught = c.args.caught.now in
    let units = c.as_slice-unit-items.result.now in
    c.loop-unit.invariant
    ∙ (ap (map (catch_of caught)) (take_all c.loop-unit.unit-index units c.loop-unit-test.false)
    ∙ ap (map (catch_of caught)) (c.as_slice-unit-items.ensures.value ∙ (c.members_of-units.ensures ∙ ap members c.everyone.ensures)))
