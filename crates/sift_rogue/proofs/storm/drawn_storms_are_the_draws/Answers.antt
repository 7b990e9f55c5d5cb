use Rattle.sift_rogue.proofs.Draws.{are_the_draws}
use Rattle.sift_rogue.proofs.storm.drawn_storms_are_the_draws.Goals as goal

pub returns : goal.returns
returns c = are_the_draws
