use Rattle.std.proofs.Common.{◌<◌, ℕ, below_more, get_or, refl, subst, arith}
use Rattle.std.proofs.lemmas.List.{get_or_default}
use Rattle.sift_byz.proofs.Testing.{not_both}
use Rattle.sift_byz.proofs.lies.are_below.Goals as goal

-- this one isn't
pub returns-then-unit-units : goal.returns-then-unit-units
returns-then-unit-units c = (
  λ yes. absurd (not_both yes refl),
  λ each. absurd (omega (arith, each c.loop-unit.unit-index 0 c.loop-unit-test.true, c.if-unit-units.true)),
)

-- one more is
pub loop-unit-preserved : goal.loop-unit-preserved
loop-unit-preserved c k d low =
    let list = c.args.list.now in
    let n : ℕ = c.args.units in
    below_more (λ j. (e : ℕ) → get_or list j e < n) c.loop-unit.unit-index (λ j before e. c.loop-unit.invariant j e before)
    (λ e. subst (λ u. u < n) (get_or_default list c.loop-unit.unit-index 0 e c.loop-unit-test.true) c.if-unit-units.false) k low d

-- all are
pub returns : goal.returns
returns c = (λ _ k d low. c.loop-unit.invariant k d (omega (arith, low, c.loop-unit-test.false)), λ _. refl)
