use Rattle.std.proofs.Common.{◌≡◌, ◌∙◌, ◌++◌, length, ap, arith, add-one, string_bytes}
use Rattle.std.specs.List.{flat_map, range_with_len}
use Rattle.std.proofs.lemmas.List.FromFn.{length-map-range_with_len}
use Rattle.sift_mission.specs.Parts.{data_of, flown_of}
use Rattle.sift_line.specs.laws.Printed.{first_text_more}
use Rattle.sift_report.specs.Ideal.{outputs_text, sensed_in}
use Rattle.sift_report.proofs.ideal.ideal_text.Goals as goal
use Rattle.sift_report.proofs.Tells.{ideal_line, frames_text}

-- the words of the sensors are as many as the sensors
pub frame-requires-clause-agreed : goal.frame-requires-clause-agreed
frame-requires-clause-agreed c =
    ap length (c.deref.ensures.0 ∙ c.sensed_in.ensures) ∙ length-map-range_with_len (λ x. (flown_of c.args.mission.now).sensed x c.loop-f.f) 0 c.args.mission.now.layout.sensors

pub loop-f-preserved : goal.loop-f-preserved
loop-f-preserved c =
    let d = data_of c.args.mission.now in
    let agreed = c.deref.ensures.0 ∙ c.sensed_in.ensures in
    let words = c.frame.ensures.in_turn (sensed_in (flown_of c.args.mission.now)) c.loop-f.f c.loop-f.invariant.1 agreed in (
      first_text_more (ideal_line d) c.loop-f.f _ _ c.loop-f.invariant.0
          (c.in_ok-push_outputs.ensures ∙ ap (λ ws. string_bytes c.loop-f.text ++ outputs_text c.loop-f.f ws) (c.outs.ensures ∙ words)),
      rw (add-one c.loop-f.f) words,
      c.frame.ensures.as_many ∙ c.loop-f.invariant.2,
    )

pub returns : goal.returns
returns c =
    let d = data_of c.args.mission.now in
    let end : c.loop-f.f ≡ d.frames = omega (arith, c.loop-f-test.false, c.loop-f.auto.f-end, c.frames-f-end.ensures) in
    let lines : string_bytes c.loop-f.text ≡ flat_map (ideal_line d) (range_with_len 0 d.frames) =
    c.loop-f.invariant.0 ∙ ap (λ n. flat_map (ideal_line d) (range_with_len 0 n)) end in
    c.in_ok-writeln.ensures.bytes ∙ ap (λ bs. bs ++ frames_text c.frames-frames.result) lines
    ∙ ap (λ n. flat_map (ideal_line d) (range_with_len 0 d.frames) ++ frames_text n) c.frames-frames.ensures
