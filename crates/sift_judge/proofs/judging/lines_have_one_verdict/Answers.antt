use Rattle.sift_judge.proofs.Turns as laws
use Rattle.sift_judge.proofs.judging.lines_have_one_verdict.Goals as goal

pub returns : goal.returns
returns c = laws.one_verdict
