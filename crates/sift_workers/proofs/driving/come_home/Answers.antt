use Rattle.sift_workers.proofs.Places.{each_itself, each_further}
use Rattle.sift_workers.proofs.driving.come_home.Goals.{in-None, in-Some+then-eq}
use Rattle.sift_workers.proofs.driving.come_home.Goals as goal

pub loop-init : goal.loop-init
loop-init g c = record {
  can = (tt, tt);
  drives = c.requires;
  comes = each_itself g.P.Pilot.comes g.met.P.Pilot.comes_itself c.args.pilots.now;
}

pub loop-preserved : goal.loop-preserved
loop-preserved g c = record {
  can = c.loop.invariant.can;
  drives = c.drive_on.ensures.drives;
  comes = each_further g.P.Pilot.comes g.met.P.Pilot.comes_on c.args.pilots.now c.loop.pilots c.drive_on.new.hand c.loop.invariant.comes c.drive_on.ensures.comes;
}

pub returns-clause-comes : goal.returns-clause-comes
returns-clause-comes g c = elim c.match-next.branch [
  | in-None w ↦ rw w.pilots-is c.loop.invariant.comes
  | in-Some+then-eq w ↦ rw w.pilots-is (each_further g.P.Pilot.comes g.met.P.Pilot.comes_on c.args.pilots.now c.loop.pilots w.drive_on.new.hand
      c.loop.invariant.comes w.drive_on.ensures.comes)
]
