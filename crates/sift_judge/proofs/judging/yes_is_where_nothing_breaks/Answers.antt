use Rattle.sift_mission.specs.Parts.{data_of}
use Rattle.sift_judge.proofs.Turns.{breaks_none, yes_of_none}
use Rattle.sift_judge.proofs.judging.yes_is_where_nothing_breaks.Goals as goal

pub returns : goal.returns
returns c =
    let d = data_of c.args.mission.now in
    let lines = c.args.lines.now in
    (breaks_none d lines, yes_of_none d lines c.judge.result c.judge.ensures)
