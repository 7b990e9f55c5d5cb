use Rattle.sift_judge.proofs.Deciding.{no_since}
use Rattle.sift_mission.specs.Parts.{data_of}
use Rattle.sift_judge.proofs.Margins.{is_sound, margin_more, had_margin}
use Rattle.sift_judge.proofs.judging.has_margin_told.Goals as goal

pub returns-then-had_margin : goal.returns-then-had_margin
returns-then-had_margin c =
    let d = data_of c.args.mission.now in
    let lines = c.args.lines.now in (
      (λ t. margin_more d lines c.args.f (c.requires.had.0 c.if-had_margin.true) (c.is_sound_told.ensures.0 t)),
      (λ has. c.is_sound_told.ensures.1 (is_sound d lines c.args.f has)),
    )

pub returns-else-had_margin : goal.returns-else-had_margin
returns-else-had_margin c =
    let d = data_of c.args.mission.now in
    no_since c.args.had_margin _ _ c.if-had_margin.false c.requires.had (had_margin d c.args.lines.now c.args.f)
