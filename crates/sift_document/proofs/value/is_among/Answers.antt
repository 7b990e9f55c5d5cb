use Rattle.std.proofs.Common.{refl, below_more, arith}
use Rattle.std.proofs.lemmas.Bool.Decides.{Decides-eqb, not_from_Decides}
use Rattle.std.proofs.lemmas.Slice.Eq.{slice_eq-Decides}
use Rattle.sift_document.specs.laws.Arrays.{among-here, among-other, among-none}
use Rattle.sift_document.proofs.value.is_among.Goals as goal

pub returns-then-eq : goal.returns-then-eq
returns-then-eq c =
    let same = (slice_eq-Decides Decides-eqb _ _ _ c.eq.ensures).0 c.if-eq.true in
    (λ _. among-here (λ other. other.now) c.args.texts.now _ _ _ c.loop-other-test.true same, λ _. refl)

pub loop-other-preserved : goal.loop-other-preserved
loop-other-preserved c =
    let differs = not_from_Decides _ (slice_eq-Decides Decides-eqb _ _ _ c.eq.ensures) c.if-eq.false in
    below_more _ _ c.loop-other.invariant
    (among-other (λ other. other.now) c.args.texts.now _ _ _ c.loop-other-test.true differs)

pub returns : goal.returns
returns c = (
  λ found. cc,
  λ there. absurd (among-none (λ other. other.now) c.args.texts.now _ (λ k low. c.loop-other.invariant k (omega arith)) there),
)
