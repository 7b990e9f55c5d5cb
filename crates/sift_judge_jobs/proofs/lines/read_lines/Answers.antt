use Rattle.std.proofs.Common.{◌≡◌, ◌∙◌, length, sym, arith}
use Rattle.std.proofs.lemmas.Bool.{eqb-true}
use Rattle.sift_judge_jobs.proofs.Steps.{finished, one_more, stops}
use Rattle.sift_judge_jobs.proofs.lines.read_lines.Goals as goal

-- the rest begins with what is refused
pub returns-in_default-clause-refused : goal.returns-in_default-clause-refused
returns-in_default-clause-refused c =
    stops c.args.version c.args.report.now c.loop-rest.rest.now c.loop-rest.lines.items c.loop-rest.invariant c.in_default.ensures.none
    _ (omega (arith, c.len.ensures, c.loop-rest.lines.ok))

-- the rest gets shorter
pub loop-rest-smaller : goal.loop-rest-smaller
loop-rest-smaller c = c.in-Some.ensures.shorter

-- a line more is read
pub loop-rest-preserved : goal.loop-rest-preserved
loop-rest-preserved c = rw c.in_ok-push.ensures.items (one_more c.args.version c.args.report.now c.loop-rest.rest.now c.in-Some.later.now
    c.loop-rest.lines.items c.in-Some.line c.loop-rest.invariant (record { read = c.in-Some.ensures.line; only = c.in-Some.ensures.only }) c.in-Some.ensures.begun)

-- nothing is left
pub returns-clause-read : goal.returns-clause-read
returns-clause-read c =
    let none : length c.loop-rest.rest.now ≡ 0 = eqb-true (length c.loop-rest.rest.now) 0 (sym c.is_empty.ensures ∙ c.loop-rest-test.false) in
    finished c.args.version c.args.report.now c.loop-rest.rest.now c.loop-rest.lines.items c.loop-rest.invariant none
