use Rattle.std.proofs.Common.{length}
use Rattle.sift_judge_jobs.proofs.Steps.{IsReadTo}
use Rattle.sift_judge_jobs.proofs.lines.read_lines.Given as goal

-- the lines so far are read, up to the rest
abbrev pub invariant-loop-rest : goal.invariant-loop-rest
invariant-loop-rest l = IsReadTo l.version l.report l.lines.items l.rest

abbrev pub decreases-loop-rest : goal.decreases-loop-rest
decreases-loop-rest l = length l.rest
