use Rattle.sift_workers.proofs.Places.{written_over}
use Rattle.sift_workers.proofs.driving.drive.Goals as goal

pub returns : goal.returns
returns g c = written_over g.P.Pilot.comes g.P.Pilot.drives c.args.hand.items c.as_mut_slice.result.now c.drive_on.new.hand c.args.hand.len
    c.as_mut_slice.ensures.value c.args.hand.ok.0 c.drive_on.ensures.comes c.drive_on.ensures.drives
