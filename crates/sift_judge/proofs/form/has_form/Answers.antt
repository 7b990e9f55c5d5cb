use Rattle.sift_judge.proofs.Deciding.{no_since}
use Rattle.sift_report.specs.Headline.{HasForm}
use Rattle.sift_mission.specs.Parts.{data_of}
use Rattle.std.proofs.Common.{◌≡◌, ◌-◌, suc, lt-ltb, arith}
use Rattle.sift_judge.proofs.form.has_form.Goals as goal

pub returns-then-f-frames : goal.returns-then-f-frames
returns-then-f-frames c = (
  (λ t. record {
    units = c.has_units_lines.ensures.0 c.if-has_units_lines.true;
    whole = c.has_frames_line.ensures.0 c.if-has_frames_line.true;
    last = λ end. absurd (omega (arith, end, c.frames.ensures, c.if-f-frames.true));
    nothing_more = λ end. absurd (omega (arith, end, c.frames.ensures, c.if-f-frames.true));
  }),
  (λ form. lt-ltb c.args.f (c.frames.result - 1) c.if-f-frames.true),
)

pub returns-else-f-frames : goal.returns-else-f-frames
returns-else-f-frames c =
    let d = data_of c.args.mission.now in
    let end : suc c.args.f ≡ d.frames = omega (arith, c.requires.frame, c.if-f-frames.false, c.frames.ensures) in (
      (λ t. (let there = c.has_end.ensures.0 t in record {
        units = c.has_units_lines.ensures.0 c.if-has_units_lines.true;
        whole = c.has_frames_line.ensures.0 c.if-has_frames_line.true;
        last = λ _. there.0;
        nothing_more = λ _. there.1;
      })),
      (λ form. c.has_end.ensures.1 (form.last end, form.nothing_more end)),
    )

pub returns-else-has_frames_line : goal.returns-else-has_frames_line
returns-else-has_frames_line c =
    no_since c.has_frames_line.result _ _ c.if-has_frames_line.false c.has_frames_line.ensures
    (λ (form : HasForm (data_of c.args.mission.now) c.args.lines.now c.args.f). form.whole)

pub returns-else-has_units_lines : goal.returns-else-has_units_lines
returns-else-has_units_lines c =
    no_since c.has_units_lines.result _ _ c.if-has_units_lines.false c.has_units_lines.ensures
    (λ (form : HasForm (data_of c.args.mission.now) c.args.lines.now c.args.f). form.units)
