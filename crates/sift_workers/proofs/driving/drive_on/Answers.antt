use Rattle.sift_workers.proofs.Places.{each_further}
use Rattle.sift_workers.proofs.driving.drive_on.Goals as goal

pub loop-init : goal.loop-init
loop-init g c = record {
  can = (tt, tt);
  drives = c.turn_each-went.ensures.drives;
  comes = c.turn_each-went.ensures.comes;
  home = c.turn_each-went.ensures.home;
}

-- each pilot went once more
pub loop-preserved : goal.loop-preserved
loop-preserved g c = let turn = c.turn_each-went-in-loop.ensures in record {
  can = c.loop.invariant.can;
  drives = turn.drives;
  comes = each_further g.P.Pilot.comes g.met.P.Pilot.comes_on c.args.hand.now c.loop.hand c.turn_each-went-in-loop.new.hand c.loop.invariant.comes turn.comes;
  home = turn.home;
}

pub returns : goal.returns
returns g c = let inv = c.loop.invariant in record { drives = inv.drives; comes = inv.comes; home = inv.home }
