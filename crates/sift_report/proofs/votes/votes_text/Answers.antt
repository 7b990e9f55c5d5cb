use Rattle.std.proofs.Common.{◌≡◌, ◌++◌, ◌∙◌, ap, arith}
use Rattle.std.specs.List.{flat_map, range_with_len}
use Rattle.sift_mission.specs.Parts.{data_of, flown_of}
use Rattle.sift_line.specs.laws.Printed.{first_text_more}
use Rattle.sift_flight.specs.Told.{told}
use Rattle.sift_report.specs.Sheet.{end_of}
use Rattle.sift_report.proofs.votes.votes_text.Goals as goal
use Rattle.sift_report.proofs.Tells.{frame_votes}

pub loop-f-preserved : goal.loop-f-preserved
loop-f-preserved c =
    first_text_more (frame_votes (data_of c.args.mission.now) (told (flown_of c.args.mission.now) c.args.flight.now)) c.loop-f.f _ _
    c.loop-f.invariant c.in_ok-push_frame_votes.ensures

pub returns : goal.returns
returns c =
    let m = flown_of c.args.mission.now in
    let fl = told m c.args.flight.now in
    let end : c.loop-f.f ≡ m.frames = omega (arith, c.loop-f-test.false, c.loop-f.auto.f-end, c.frames-f-end.ensures) in
    let lines = c.loop-f.invariant ∙ ap (λ n. flat_map (frame_votes (data_of c.args.mission.now) fl) (range_with_len 0 n)) end in
    c.in_ok-push_end.ensures ∙ ap (λ bs. bs ++ end_of m fl) lines
