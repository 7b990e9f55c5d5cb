use Rattle.std.proofs.Common.{◌≡◌, inl, inr, subst, arith}
use Rattle.std.proofs.lemmas.Bool.{cases_lt}
use Rattle.sift_mission.specs.Parts.{data_of}
use Rattle.sift_report.specs.Headline.{HasForm}
use Rattle.sift_judge.proofs.form.first_without_form.Goals as goal

pub loop-f-preserved : goal.loop-f-preserved
loop-f-preserved c = λ g low. elim (cases_lt g c.loop-f.f) [
  | inl less ↦ c.loop-f.invariant g less
  | inr more ↦
      let e : c.loop-f.f ≡ g = omega (arith, low, more) in
      subst (HasForm (data_of c.args.mission.now) c.args.lines.now) e (c.has_form.ensures.0 c.if-not-has_form.false)
]

pub loop-f-init : goal.loop-f-init
loop-f-init c =
    λ g low. absurd (omega (arith, low))
