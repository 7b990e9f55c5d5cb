use Rattle.std.proofs.Common.{◌≡◌, ◌<◌, ◌∙◌, ap, below_more, length, refl, subst, arith}
use Rattle.sift_mission.specs.Parts.{data_of}
use Rattle.sift_mission.specs.declared.mission.MissionParts.{MissionParts}
use Rattle.sift_judge.specs.Turns.{KeepsBefore, KeepsFrame}
use Rattle.sift_judge.proofs.InTurn.{first_in_turn, headline}
use Rattle.sift_judge.proofs.Margins.{had_margin, margin_after, margin_at_first, margin_until}
use Rattle.sift_judge.proofs.judging.judge_frames.Goals as goal

pub loop-frame-init : goal.loop-frame-init
loop-frame-init c =
    let d = data_of c.args.mission.now in
    let starts : c.start-ideal.result ≡ d.program.starts = c.start-ideal.ensures ∙ ap (λ (p : MissionParts). p.program.starts.items) c.parts.ensures.same in (
      ((λ t. margin_at_first d c.args.lines.now), (λ had. refl)),
      record { words_are = λ t. starts; as_many = ap length starts },
      (λ g low. absurd (omega (arith, low))),
    )

-- a frame with margin comes behind frames with margin
pub first_broken-requires-clause-known : goal.first_broken-requires-clause-known
first_broken-requires-clause-known c =
    let d = data_of c.args.mission.now in
    let f = c.loop-frame.frame in
    let seen = c.loop-frame.invariant in
    let has = c.has_margin_told-has_margin.ensures in
    let low : f < d.frames = omega (arith, c.loop-frame-test.true, c.frames-frame-end.ensures) in
    record {
      frame = low;
      form = c.requires.forms f low;
      margin_is = has;
      runs = record {
        words_are = λ t. seen.1.words_are (seen.0.1 (had_margin d c.args.lines.now f (has.0 t)));
        as_many = seen.1.as_many;
      };
    }

pub returns-in-Some : goal.returns-in-Some
returns-in-Some c =
    let d = data_of c.args.mission.now in
    let found = c.in-Some.ensures.found in
    (found.rule, found.named, first_in_turn d c.args.lines.now c.loop-frame.frame c.in-Some.rule c.requires.forms c.loop-frame.invariant.2 found)

pub loop-frame-preserved : goal.loop-frame-preserved
loop-frame-preserved c =
    let d = data_of c.args.mission.now in
    let lines = c.args.lines.now in
    let f = c.loop-frame.frame in
    let has = c.has_margin_told-has_margin.ensures in (
      ((λ t. margin_after d lines f (has.0 t)), (λ had. has.1 (margin_until d lines f had))),
      c.in_default.ensures.runs,
      below_more (KeepsFrame d lines) f c.loop-frame.invariant.2 c.in_default.ensures.none,
    )

pub returns : goal.returns
returns c =
    let d = data_of c.args.mission.now in
    let lines = c.args.lines.now in
    let end : c.loop-frame.frame ≡ d.frames = omega (arith, c.loop-frame-test.false, c.loop-frame.auto.frame-end, c.frames-frame-end.ensures) in
    headline d lines c.requires.forms (subst (KeepsBefore d lines) end c.loop-frame.invariant.2)
