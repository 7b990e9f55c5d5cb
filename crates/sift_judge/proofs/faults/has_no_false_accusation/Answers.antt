use Rattle.std.proofs.Common.{◌≡◌, ◌∙◌, false}
use Rattle.std.specs.List.{All}
use Rattle.sift_base.specs.Units.{holds}
use Rattle.sift_mission.specs.Parts.{data_of}
use Rattle.sift_judge.proofs.EachWorking.{all_work, decides_each, each_works}
use Rattle.sift_judge.proofs.faults.has_no_false_accusation.Goals as goal
use Rattle.sift_report.specs.Told.{told_at}

pub returns : goal.returns
returns c =
    let d = data_of c.args.mission.now in
    let f = c.args.f in
    let units = c.deref.ensures.0 ∙ c.working_at-working.ensures in
    let law = decides_each d f (λ u. All (λ v. holds (told_at d c.args.lines.now f u).caught v ≡ false) c.deref.result.now) c.deref.result.now units
    c.all_accuse_none.result c.all_accuse_none.ensures in (
      (λ t u v wu wv. each_works d f (λ w. holds (told_at d c.args.lines.now f u).caught w ≡ false) c.deref.result.now units (law.0 t u wu) v wv),
      (λ given. law.1 (λ u wu. all_work d f (λ w. holds (told_at d c.args.lines.now f u).caught w ≡ false) c.deref.result.now units (λ v wv. given u v wu wv))),
    )
