use Rattle.sift_judge_jobs.proofs.Places.{IsNowhereBefore}
use Rattle.sift_judge_jobs.proofs.lines.divide.Given as goal

-- the divider stands at none of the places so far
abbrev pub invariant-loop-place : goal.invariant-loop-place
invariant-loop-place l = IsNowhereBefore l.bytes l.place
