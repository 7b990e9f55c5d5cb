use Rattle.std.proofs.Common.{arith}
use Rattle.sift_line.specs.laws.Printed.{digit_more, digits_all}
use Rattle.sift_line.proofs.print.push_config.Goals as goal

pub loop-i-preserved : goal.loop-i-preserved
loop-i-preserved c = digit_more c.args.config.now c.loop-i.i c.unit_at.result _ _ _ c.unit_at.ensures c.loop-i.invariant c.in_ok-push_unit.ensures

pub returns : goal.returns
returns c =
    digits_all c.args.config.now c.loop-i.i _ _ c.loop-i.invariant (omega (arith, c.loop-i-test.false, c.len-i-end.ensures.length)) (omega (arith, c.len-i-end.ensures.config.enough))
