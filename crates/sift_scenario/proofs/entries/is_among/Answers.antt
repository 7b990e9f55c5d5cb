use Rattle.std.proofs.Common.{ap, refl, sym, ◌∙◌, below_more, arith}
use Rattle.std.proofs.lemmas.Bool.Decides.{Decides-eqb, not_from_Decides}
use Rattle.std.proofs.lemmas.Slice.Eq.{slice_eq-Decides}
use Rattle.sift_document.specs.laws.Arrays.{among-here, among-other, among-none}
use Rattle.sift_scenario.proofs.entries.is_among.Goals as goal

pub returns-then-eq : goal.returns-then-eq
returns-then-eq c =
    let item = ap (λ name. name.bytes) (sym c.name-item.is) ∙ sym c.as_str.ensures.value in
    let same = (slice_eq-Decides Decides-eqb _ _ _ c.eq.ensures).0 c.if-eq.true in
    (λ _. among-here (λ name. name.bytes) c.args.names.now _ _ _ c.loop-name-test.true (item ∙ same), λ _. refl)

pub loop-name-preserved : goal.loop-name-preserved
loop-name-preserved c =
    let item = ap (λ name. name.bytes) (sym c.name-item.is) ∙ sym c.as_str.ensures.value in
    let differs = not_from_Decides _ (slice_eq-Decides Decides-eqb _ _ _ c.eq.ensures) c.if-eq.false in
    below_more _ _ c.loop-name.invariant
    (among-other (λ name. name.bytes) c.args.names.now _ _ c.name-item.result c.loop-name-test.true (λ same. differs (sym item ∙ same)))

pub returns : goal.returns
returns c = (
  λ found. cc,
  λ there. absurd (among-none (λ name. name.bytes) c.args.names.now _ (λ k low. c.loop-name.invariant k (omega arith)) there),
)
