use Rattle.std.proofs.Common.{arith}
use Rattle.sift_code.proofs.Changing.{zeros_more, zeros_all}
use Rattle.sift_code.proofs.machine.clear_locals.Goals as goal

-- one more local is 0
pub loop-local-preserved : goal.loop-local-preserved
loop-local-preserved c =
    zeros_more c.loop-local.words _ c.loop-local.local c.of.result (omega (arith, c.loop-local-test.true))
    (omega (arith, c.requires, c.loop-local.auto.words)) c.write.ensures c.of.ensures c.loop-local.invariant

-- all locals are 0
pub returns : goal.returns
returns c =
    zeros_all c.loop-local.words c.loop-local.local (omega (arith, c.loop-local-test.false, c.loop-local.auto.local-end))
    (omega (arith, c.requires, c.loop-local.auto.words)) c.loop-local.invariant
