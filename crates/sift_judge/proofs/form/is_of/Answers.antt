use Rattle.std.specs.Prelude.{◌↔◌}
use Rattle.sift_judge.proofs.Deciding.{beq_decides, no_since}
use Rattle.std.proofs.Common.{◌∙◌, eq-eqb, eqb-true, sym, ◌≡◌, true}
use Rattle.sift_judge.proofs.form.is_of.Goals as goal

pub returns-else-g-f : goal.returns-else-g-f
returns-else-g-f c =
    ((λ t. absurd (c.if-g-f.false (eqb-true c.args.g c.args.f t))), (λ all. eq-eqb c.args.g c.args.f all.0))

pub returns-then-eq : goal.returns-then-eq
returns-then-eq c =
    let same = beq_decides c.works.result c.args.works in (
      (λ t. (c.if-g-f.true, eqb-true c.args.v c.args.u (sym c.eq.ensures ∙ c.if-eq.true), sym c.works.ensures ∙ same.0 t)),
      (λ all. same.1 (c.works.ensures ∙ all.2)),
    )

pub returns-else-eq : goal.returns-else-eq
returns-else-eq c =
    let same : (c.eq.result ≡ true) ↔ (c.args.v ≡ c.args.u) =
    ((λ t. eqb-true c.args.v c.args.u (sym c.eq.ensures ∙ t)), (λ e. c.eq.ensures ∙ eq-eqb c.args.v c.args.u e)) in
    no_since c.eq.result _ _ c.if-eq.false same (λ all. all.1)
