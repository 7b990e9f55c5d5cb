use Rattle.sift_ether.proofs.Order.{one_order}
use Rattle.sift_ether.proofs.laws.stories_have_one_order.Goals as goal

pub returns : goal.returns
returns c = one_order
