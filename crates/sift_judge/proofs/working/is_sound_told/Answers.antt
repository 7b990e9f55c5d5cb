use Rattle.sift_judge.proofs.Deciding.{no_where, none_told}
use Rattle.std.proofs.Common.{◌≡◌, Some, ◌∙◌, sym, subst}
use Rattle.sift_base.specs.Units.{HasMargin}
use Rattle.sift_mission.specs.Parts.{data_of}
use Rattle.sift_report.specs.Told.{config_told, works_in}
use Rattle.sift_judge.proofs.Lists.{one_told}
use Rattle.sift_judge.proofs.working.is_sound_told.Goals as goal

pub returns-in-Some : goal.returns-in-Some
returns-in-Some c =
    let d = data_of c.args.mission.now in
    let is : config_told d c.args.lines.now c.args.f ≡ Some c.in-Some.config = sym c.config_told.ensures ∙ c.in-Some.is in (
      (λ t. (c.in-Some.config, is, c.has_margin.ensures.0 t)),
      (λ sound. c.has_margin.ensures.1 (subst (HasMargin (λ u. works_in d u c.args.f)) (one_told sound.0 c.in-Some.config _ sound.1 is) sound.2)),
    )

pub returns-in-None : goal.returns-in-None
returns-in-None c =
    no_where _ (λ sound. none_told _ sound.0 (sym c.config_told.ensures ∙ c.in-None.is) sound.1)
