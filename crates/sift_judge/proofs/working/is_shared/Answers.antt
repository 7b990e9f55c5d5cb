use Rattle.std.proofs.Common.{◌≡◌, ◌∙◌, Some}
use Rattle.sift_mission.specs.Parts.{data_of}
use Rattle.sift_report.specs.Told.{told_at}
use Rattle.sift_judge.proofs.EachWorking.{decides_each}
use Rattle.sift_judge.proofs.working.is_shared.Goals as goal

pub returns-else-not-has_margin : goal.returns-else-not-has_margin
returns-else-not-has_margin c =
    let d = data_of c.args.mission.now in
    let f = c.args.f in
    let law = decides_each d f (λ u. (told_at d c.args.lines.now f u).config ≡ Some c.args.config.now) c.deref.result.now
    (c.deref.ensures.0 ∙ c.working_at.ensures) c.all_tell_config.result c.all_tell_config.ensures in (
      (λ t margin u w. law.0 t u w),
      (λ given. law.1 (given (c.has_margin.ensures.0 c.if-not-has_margin.false))),
    )
