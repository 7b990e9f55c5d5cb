use Rattle.sift_ether.specs.TableSeats.{ranges_at}
use Rattle.sift_ether.proofs.Dealing.{arrives}
use Rattle.sift_ether.proofs.land.new_head.Goals as goal

pub load_new_seat-head-requires : goal.load_new_seat-head-requires
load_new_seat-head-requires c = (c.requires, arrives (ranges_at c.args.words.now.key) _ _)
