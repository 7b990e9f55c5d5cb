use Rattle.std.proofs.Common.{length, ◌≤◌, arith}
use Rattle.sift_judge_jobs.proofs.Places.{divides_first, nowhere_at_all, one_more}
use Rattle.sift_judge_jobs.proofs.lines.divide.Goals as goal

-- the first place divides
pub returns-in-Some-clause-divided : goal.returns-in-Some-clause-divided
returns-in-Some-clause-divided c =
    divides_first c.args.bytes.now c.loop-place.place c.in-Some.report.now (omega (arith, c.loop-place-test.true)) c.loop-place.invariant
    c.in-Some.ensures.there

-- it stands at one place less
pub loop-place-preserved : goal.loop-place-preserved
loop-place-preserved c = one_more c.args.bytes.now c.loop-place.place c.loop-place.invariant c.in_default.ensures.elsewhere

-- it stands nowhere
pub returns-clause-undivided : goal.returns-clause-undivided
returns-clause-undivided c =
    let all : length c.args.bytes.now ≤ c.loop-place.place = omega (arith, c.loop-place-test.false) in
    nowhere_at_all c.args.bytes.now (λ document report short. c.loop-place.invariant document report (omega (arith, short, all)))
