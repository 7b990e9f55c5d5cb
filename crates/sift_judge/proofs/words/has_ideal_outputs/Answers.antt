use Rattle.std.proofs.Common.{◌≡◌, ◌∙◌, sym}
use Rattle.sift_mission.specs.Parts.{data_of}
use Rattle.sift_judge.proofs.EachWorking.{decides_each}
use Rattle.sift_judge.proofs.words.has_ideal_outputs.Goals as goal
use Rattle.sift_report.specs.Told.{told_at}

pub returns : goal.returns
returns c =
    let d = data_of c.args.mission.now in
    let f = c.args.f in
    let law = decides_each d f (λ u. (told_at d c.args.lines.now f u).outputs ≡ c.args.words.now) c.deref.result.now
    (c.deref.ensures.0 ∙ c.working_at.ensures) c.all_tell_outputs.result c.all_tell_outputs.ensures in (
      (λ t u w. law.0 t u w ∙ c.requires.words),
      (λ given. law.1 (λ u w. given u w ∙ sym c.requires.words)),
    )
