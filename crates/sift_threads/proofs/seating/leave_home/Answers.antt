use Rattle.std.specs.Vec.Iter.{into_iter_items}
use Rattle.sift_threads.proofs.Home.{come_home}
use Rattle.sift_threads.proofs.seating.leave_home.Goals as goal

pub returns : goal.returns
returns g c = come_home g.R.Rogue.allows c.boards_that_are_down_have_flown.ensures c.tokens_come_back.ensures c.args.mission.now c.a_mission_fits.ensures.parts
    c.args.ether.now c.args.home.items (into_iter_items c.args.beyond) c.leave_all.result c.leave_all.ensures
