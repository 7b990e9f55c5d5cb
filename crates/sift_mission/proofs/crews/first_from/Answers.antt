use Rattle.std.proofs.Common.{◌≡◌, ◌/◌, ◌^◌, ◌+◌, ◌∙◌, ap, sym, subst, arith}
use Rattle.std.specs.Int.{trailing_zeros, w16}
use Rattle.std.proofs.lemmas.Nat.{shr_le}
use Rattle.sift_base.specs.Units.{Units, holds}
use Rattle.sift_mission.specs.Slots.{IsFirstFrom}
use Rattle.sift_mission.proofs.Sayers.{none_from, first_of_rest}
use Rattle.sift_mission.proofs.crews.first_from.Goals as goal

-- nothing is left of the byte
pub returns-then-rest-eq0 : goal.returns-then-rest-eq0
returns-then-rest-eq0 c =
    let from = c.args.from in
    subst (λ (units : Units). IsFirstFrom (holds units) from 8) c.bits.ensures.back
    (none_from c.bits.result from c.bits.type_inv c.requires (ap (λ n. n / 2 ^ from) (sym c.from.ensures) ∙ c.if-rest-eq0.true))

-- the first unit is the lowest of what is left
pub returns : goal.returns
returns c =
    let from = c.args.from in
    let bits = c.bits.result in
    let same : c.from.result / 2 ^ from ≡ bits / 2 ^ from = ap (λ n. n / 2 ^ from) c.from.ensures in
    let some = c.if-rest-eq0.false in
    let byte = c.bits.type_inv in
    let less = shr_le bits from in
    subst (λ n. IsFirstFrom (holds c.args.units) from (from + trailing_zeros w16 n)) (sym same)
    (subst (λ (units : Units). IsFirstFrom (holds units) from (from + trailing_zeros w16 (bits / 2 ^ from))) c.bits.ensures.back
    (first_of_rest bits from byte c.requires (omega arith) (omega arith)))
