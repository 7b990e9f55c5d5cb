use Rattle.sift_base.specs.laws.Counts.{has_place}
use Rattle.sift_mission.specs.Parts.{data_of, flown_of}
use Rattle.sift_line.specs.laws.Printed.{unit_more}
use Rattle.sift_flight.specs.Told.{told}
use Rattle.sift_report.specs.Votes.{unit_votes}
use Rattle.sift_report.proofs.votes.push_frame_votes.Goals as goal

pub push_unit_votes-requires-clause-unit : goal.push_unit_votes-requires-clause-unit
push_unit_votes-requires-clause-unit c =
    rw c.everyone-everyone.ensures at (has_place c.everyone-everyone.result c.loop-i.i c.unit_at.result c.unit_at.ensures)

pub loop-i-preserved : goal.loop-i-preserved
loop-i-preserved c =
    unit_more (unit_votes (data_of c.args.mission.now) (told (flown_of c.args.mission.now) c.args.flight.now) c.args.f) c.everyone-everyone.result
    c.loop-i.i c.unit_at.result _ _ _ c.unit_at.ensures c.loop-i.invariant c.in_ok-push_unit_votes.ensures
