use Rattle.std.proofs.Common.{arith}
use Rattle.sift_base.specs.laws.Counts.{has_place}
use Rattle.sift_mission.specs.Parts.{flown_of}
use Rattle.sift_line.specs.laws.Printed.{line_more, frame_ends}
use Rattle.sift_flight.specs.Told.{told}
use Rattle.sift_report.specs.Sheet.{unit_line}
use Rattle.sift_report.proofs.Held.{on_ok, one_more, all_of_frame}
use Rattle.sift_report.proofs.report.push_frame.Goals as goal

pub unit_line-requires-clause-unit : goal.unit_line-requires-clause-unit
unit_line-requires-clause-unit c = rw c.everyone-everyone.ensures at (has_place c.everyone-everyone.result c.loop-i.i c.unit_at.result c.unit_at.ensures)

pub loop-i-preserved : goal.loop-i-preserved
loop-i-preserved c =
    let m = flown_of c.args.mission.now in
    let line = unit_line m (told m c.args.flight.now) c.args.version c.args.f in (
      line_more line c.everyone-everyone.result c.loop-i.i c.unit_at.result _ _ _
          c.unit_at.ensures c.loop-i.invariant.0 (rw c.unit_line.ensures at c.in_ok-push_one.ensures.text),
      one_more line c.everyone-everyone.result c.loop-i.i c.unit_at.result
          c.unit_at.ensures c.loop-i.invariant.1 (rw c.unit_line.ensures at c.in_ok-push_one.ensures.line),
    )

pub returns-clause-text : goal.returns-clause-text
returns-clause-text c =
    let m = flown_of c.args.mission.now in
    frame_ends (unit_line m (told m c.args.flight.now) c.args.version c.args.f) c.everyone-everyone.result m.units c.loop-i.i _ c.frame_line.result _ _ _ _
    c.loop-i.invariant.0 (omega (arith, c.loop-i-test.false, c.len-i-end.ensures.length)) c.everyone-everyone.ensures c.frame_line.ensures c.push_one-2.ensures.text

pub returns-clause-lines : goal.returns-clause-lines
returns-clause-lines c =
    let m = flown_of c.args.mission.now in
    on_ok c.push_one-2.result
    (all_of_frame (unit_line m (told m c.args.flight.now) c.args.version c.args.f) c.everyone-everyone.result m.units c.loop-i.i _ c.frame_line.result
    c.loop-i.invariant.1 (omega (arith, c.loop-i-test.false, c.len-i-end.ensures.length)) c.everyone-everyone.ensures c.frame_line.ensures c.push_one-2.ensures.line)
