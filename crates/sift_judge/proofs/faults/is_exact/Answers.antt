use Rattle.std.proofs.Common.{◌≡◌, ◌∙◌, ◌&&◌, ℕ, Bool, not, ap, sym}
use Rattle.std.specs.List.{filter}
use Rattle.sift_base.specs.Units.{holds, members}
use Rattle.sift_base.specs.laws.Counts.{filter_same}
use Rattle.sift_mission.specs.Parts.{data_of}
use Rattle.sift_judge.proofs.UnitSets.{members_left}
use Rattle.sift_judge.proofs.faults.is_exact.Goals as goal
use Rattle.sift_judge.proofs.Caught.{two_tell}

pub returns : goal.returns
returns c =
    let us = c.args.config.now in
    let two : ℕ → Bool = two_tell (data_of c.args.mission.now) c.args.lines.now c.args.f us in
    let caught = c.caught_by_two-caught.result in
    let left : members c.minus.result ≡ filter (λ v. not (two v)) us =
    ap members c.minus.ensures ∙ members_left c.units-2.result caught ∙ ap (filter (λ v. not (holds caught v))) c.units-2.ensures.members
    ∙ filter_same (λ v. not (holds caught v)) (λ v. not (two v)) us (λ v there. ap not (c.caught_by_two-caught.ensures v ∙ ap (λ b. b && two v) there)) in (
      (λ t. sym c.units.ensures.members ∙ c.are_same_units.ensures.0 t ∙ left),
      (λ e. c.are_same_units.ensures.1 (c.units.ensures.members ∙ e ∙ sym left)),
    )
