use Rattle.sift_ether.specs.TableSeats.{ranges_at}
use Rattle.sift_ether.proofs.Dealing.{lands}
use Rattle.sift_ether.proofs.land.close.Goals as goal

pub returns : goal.returns
returns c = lands c.fresh_is_lawful.ensures c.events_keep_the_core_lawful.ensures (ranges_at c.args.table.shared.key) _ _ _ _ c.close_with-closed.ensures.values.2
