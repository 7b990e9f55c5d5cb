use Rattle.std.proofs.Common.{refl}
use Rattle.sift_mission.specs.Parts.{data_of}
use Rattle.sift_judge.specs.Verdict.{form}
use Rattle.sift_judge.proofs.InTurn.{first_form}
use Rattle.sift_judge.proofs.judging.judge.Goals as goal

pub returns-in-Some : goal.returns-in-Some
returns-in-Some c = (form, refl, first_form (data_of c.args.mission.now) c.args.lines.now c.in-Some.frame c.in-Some.ensures.found)
