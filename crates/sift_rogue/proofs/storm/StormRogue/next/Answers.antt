use Rattle.std.proofs.Common.{rules}
use Rattle.sift_base.specs.Draw.{after}
use Rattle.sift_rogue.proofs.storm.StormRogue.next.Goals as goal

-- five draws, one after the other
pub returns : goal.returns
unfolding after
returns c = search rules
