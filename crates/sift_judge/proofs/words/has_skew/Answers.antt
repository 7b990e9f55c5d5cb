use Rattle.sift_judge.proofs.Deciding.{none_told}
use Rattle.std.proofs.Common.{◌≡◌, ◌∙◌, List, ℕ, Some, subst, sym, refl}
use Rattle.std.specs.Prelude.{IsSomeAnd}
use Rattle.sift_mission.specs.Parts.{data_of}
use Rattle.sift_report.specs.Told.{config_told}
use Rattle.sift_judge.specs.Clocks.{IsTrueSkew, working_clocks}
use Rattle.sift_judge.proofs.Lists.{one_told}
use Rattle.sift_judge.proofs.words.has_skew.Goals as goal

pub returns-in-Some : goal.returns-in-Some
returns-in-Some c =
    let d = data_of c.args.mission.now in
    let lines = c.args.lines.now in
    let f = c.args.f in
    let is : config_told d lines f ≡ Some c.in-Some.config = sym c.config_told.ensures ∙ c.in-Some.is in (
      (λ t us told. subst (λ (vs : List ℕ). IsSomeAnd c.args.skew (IsTrueSkew d (working_clocks d lines f vs)))
          (one_told c.in-Some.config us _ is told) (c.has_skew_of.ensures.0 t)),
      (λ given. c.has_skew_of.ensures.1 (given c.in-Some.config is)),
    )

pub returns-in-None : goal.returns-in-None
returns-in-None c =
    ((λ t us told. absurd (none_told _ us (sym c.config_told.ensures ∙ c.in-None.is) told)), (λ given. refl))
