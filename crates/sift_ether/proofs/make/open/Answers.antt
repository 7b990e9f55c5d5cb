use Rattle.std.proofs.Common.{[]}
use Rattle.sift_ether.specs.TableSeats.{ranges_at}
use Rattle.sift_ether.proofs.Dealing.{opens}
use Rattle.sift_ether.proofs.make.open.Goals as goal

pub of_words-requires : goal.of_words-requires
of_words-requires c = opens (ranges_at c.args.grid.now) _ [] c.requires
