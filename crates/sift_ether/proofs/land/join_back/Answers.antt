use Rattle.sift_ether.specs.TableSeats.{ranges_at}
use Rattle.sift_ether.proofs.Dealing.{joins}
use Rattle.sift_ether.proofs.land.join_back.Goals as goal

pub join_seat-requires : goal.join_seat-requires
join_seat-requires c = (c.requires.head, c.requires.seat.0, c.requires.seat.1, c.requires.wide, joins (ranges_at c.args.words.now.key) _ _ _ _)
