use Rattle.sift_base.specs.laws.Sets.{members_are}
use Rattle.sift_base.proofs.units.members_are_the_set.Goals as goal

pub returns : goal.returns
returns c = members_are
