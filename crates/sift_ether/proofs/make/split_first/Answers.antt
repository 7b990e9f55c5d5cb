use Rattle.sift_ether.specs.TableSeats.{ranges_at}
use Rattle.sift_ether.proofs.Dealing.{splits}
use Rattle.sift_ether.proofs.make.split_first.Goals as goal

pub split_seat-requires : goal.split_seat-requires
split_seat-requires c = (c.requires.table, c.requires.wide, splits (ranges_at c.args.words.now.key) _ _)
