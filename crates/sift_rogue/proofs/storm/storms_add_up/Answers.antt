use Rattle.sift_rogue.proofs.Adding.{add_up}
use Rattle.sift_rogue.proofs.storm.storms_add_up.Goals as goal

pub returns : goal.returns
returns g c = add_up g.R.Rogue.allows
