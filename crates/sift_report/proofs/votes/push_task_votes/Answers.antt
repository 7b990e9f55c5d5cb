use Rattle.sift_mission.specs.Parts.{data_of, flown_of}
use Rattle.sift_line.specs.laws.Printed.{text_more}
use Rattle.sift_flight.specs.Told.{told}
use Rattle.sift_report.specs.Votes.{vote_text}
use Rattle.sift_report.proofs.votes.push_task_votes.Goals as goal

pub loop-j-preserved : goal.loop-j-preserved
loop-j-preserved c =
    text_more (λ j. vote_text (data_of c.args.mission.now) (told (flown_of c.args.mission.now) c.args.flight.now) c.args.f c.args.u (record { t = c.args.t; j = j })) c.loop-j.j _ _ _
    c.loop-j.invariant c.in_ok-push_vote.ensures
