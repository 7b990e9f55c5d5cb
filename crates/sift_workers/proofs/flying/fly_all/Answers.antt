use Rattle.sift_workers.proofs.Dealt.{zip_all}
use Rattle.sift_workers.proofs.flying.fly_all.Goals as goal

pub drive_home-requires : goal.drive_home-requires
drive_home-requires g c = zip_all g.P.Pilot.comes g.P.Pilot.drives c.args.pilots.items c.in_ok-flown.flown.items c.in_ok-flown.ensures

pub returns : goal.returns
returns g c = c.drive_home.ensures c.args.pilots.items c.in_ok-flown.ensures
