use Rattle.std.proofs.Common.{arith}
use Rattle.std.proofs.lemmas.Grind.{common_steps}
use Rattle.sift_top_rows.proofs.machines.expect_turns.Goals as goal

-- a new machine flies, with a rogue for each unit that there may be, and with all calls left
pub loop-digit-init : goal.loop-digit-init
loop-digit-init g c = record {
  flies = (_, c.in_ok-machine.ensures.flies);
  rogues = c.in_ok-rogues.ensures;
  left = c.in_ok-machine.ensures.left;
}

pub loop-digit-preserved : goal.loop-digit-preserved
loop-digit-preserved g c = grind (arith, common_steps)
