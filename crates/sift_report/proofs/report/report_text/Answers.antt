use Rattle.std.proofs.Common.{◌≡◌, [], ◌++◌, ◌∙◌, suc, ◌-◌, true, false, add-one, sym, ap, arith, string_bytes}
use Rattle.std.specs.List.{flat_map, range_with_len}
use Rattle.sift_mission.specs.Parts.{flown_of}
use Rattle.sift_line.specs.Line.{printed, text_of_lines}
use Rattle.sift_line.specs.laws.Printed.{line_after, lines_more}
use Rattle.sift_flight.specs.Figures.{margin_before}
use Rattle.sift_flight.specs.Told.{told}
use Rattle.sift_report.specs.Sheet.{frame_lines, last_line}
use Rattle.sift_report.proofs.Held.{one_frame_more, all_of_report}
use Rattle.sift_report.proofs.report.report_text.Goals.{then-margin, else-margin}
use Rattle.sift_report.proofs.report.report_text.Goals as goal

-- the lines and the margin of one frame more
pub loop-f-preserved : goal.loop-f-preserved
loop-f-preserved c =
    let m = flown_of c.args.mission.now in
    let fl = told m c.args.flight.now in (
      lines_more (frame_lines m fl c.args.version) c.loop-f.f _ _ c.loop-f.invariant.0 c.in_ok-push_frame.ensures.text,
      rw (add-one c.loop-f.f) (elim c.if-margin.branch [
        | then-margin w ↦
            let before : margin_before m fl c.loop-f.f ≡ true = sym c.loop-f.invariant.1 ∙ w.if-margin.true in
            rw before (w.margin-is ∙ w.is_sound_at-margin.ensures)
        | else-margin w ↦
            let before : margin_before m fl c.loop-f.f ≡ false = sym c.loop-f.invariant.1 ∙ w.if-margin.false in
            rw before (w.margin-is ∙ w.if-margin.false)
      ]),
      one_frame_more (frame_lines m fl c.args.version) c.loop-f.f c.loop-f.invariant.2 c.in_ok-push_frame.ensures.lines,
    )

pub last_line-requires-clause-margin : goal.last_line-requires-clause-margin
last_line-requires-clause-margin c =
    let m = flown_of c.args.mission.now in
    let fl = told m c.args.flight.now in
    let frames = ap (λ parts. parts.frames) c.parts.ensures.same in
    let some = c.parts.ensures.fit.limits.some_frame in
    let end : c.loop-f.f ≡ suc (m.frames - 1) = omega (arith, c.loop-f-test.false, c.loop-f.auto.f-end, frames) in
    c.loop-f.invariant.1 ∙ ap (margin_before m fl) end

pub returns-clause-text : goal.returns-clause-text
returns-clause-text c =
    let m = flown_of c.args.mission.now in
    let fl = told m c.args.flight.now in
    let frames = ap (λ parts. parts.frames) c.parts.ensures.same in
    let end : c.loop-f.f ≡ m.frames = omega (arith, c.loop-f-test.false, c.loop-f.auto.f-end, frames) in
    line_after (flat_map (frame_lines m fl c.args.version) (range_with_len 0 m.frames)) (last_line m fl) [] (string_bytes c.loop-f.text) _
    (c.loop-f.invariant.0 ∙ ap (λ n. text_of_lines (flat_map (frame_lines m fl c.args.version) (range_with_len 0 n))) end)
    (c.in_ok-push_one.ensures.text ∙ ap (λ line. string_bytes c.loop-f.text ++ printed line) c.last_line.ensures)

pub returns-clause-lines : goal.returns-clause-lines
returns-clause-lines c =
    let m = flown_of c.args.mission.now in
    let fl = told m c.args.flight.now in
    let frames = ap (λ parts. parts.frames) c.parts.ensures.same in
    let end : c.loop-f.f ≡ m.frames = omega (arith, c.loop-f-test.false, c.loop-f.auto.f-end, frames) in
    all_of_report (frame_lines m fl c.args.version) (last_line m fl) c.loop-f.f m.frames c.last_line.result end c.last_line.ensures
    c.loop-f.invariant.2 c.in_ok-push_one.ensures.line
