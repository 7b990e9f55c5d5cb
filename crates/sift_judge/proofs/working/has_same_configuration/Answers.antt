use Rattle.sift_report.specs.Headline.{TellsSameConfiguration}
use Rattle.sift_judge.proofs.Deciding.{no_since, no_where, none_told}
use Rattle.std.proofs.Common.{◌≡◌, ℕ, List, Some, ◌∙◌, sym, subst}
use Rattle.sift_base.specs.Units.{HasMargin}
use Rattle.sift_mission.specs.Parts.{data_of}
use Rattle.sift_report.specs.Told.{config_told, told_at, IsWorking, works_in}
use Rattle.sift_judge.proofs.Lists.{one_told}
use Rattle.sift_judge.proofs.working.has_same_configuration.Goals as goal

pub returns-then-is_right_at_first : goal.returns-then-is_right_at_first
returns-then-is_right_at_first c =
    let d = data_of c.args.mission.now in
    let f = c.args.f in
    let lines = c.args.lines.now in
    let is : config_told d lines f ≡ Some c.in-Some.config = sym c.config_told.ensures ∙ c.in-Some.is in (
      (λ t. record {
        config = c.in-Some.config;
        told = is;
        all_at_first = c.is_right_at_first.ensures.0 c.if-is_right_at_first.true;
        same = c.is_shared.ensures.0 t;
      }),
      (λ one. c.is_shared.ensures.1
          (subst (λ (us : List ℕ). HasMargin (λ u. works_in d u f) us → (u : ℕ) → IsWorking d u f → (told_at d lines f u).config ≡ Some us)
          (one_told one.config c.in-Some.config _ one.told is) one.same)),
    )

pub returns-else-is_right_at_first : goal.returns-else-is_right_at_first
returns-else-is_right_at_first c =
    let d = data_of c.args.mission.now in
    let is : config_told d c.args.lines.now c.args.f ≡ Some c.in-Some.config = sym c.config_told.ensures ∙ c.in-Some.is in
    no_since c.is_right_at_first.result _ _ c.if-is_right_at_first.false c.is_right_at_first.ensures
    (λ (one : TellsSameConfiguration d c.args.lines.now c.args.f) zero. one_told c.in-Some.config one.config _ is one.told ∙ one.all_at_first zero)

pub returns-in-None : goal.returns-in-None
returns-in-None c =
    let d = data_of c.args.mission.now in
    no_where _ (λ (one : TellsSameConfiguration d c.args.lines.now c.args.f). none_told _ one.config (sym c.config_told.ensures ∙ c.in-None.is) one.told)
