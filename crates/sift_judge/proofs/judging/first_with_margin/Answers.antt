use Rattle.sift_judge.specs.Turns.{KnowsBefore}
use Rattle.sift_judge.proofs.Deciding.{not_both, fails}
use Rattle.std.proofs.Common.{arith, add-one, subst}
use Rattle.sift_mission.specs.Parts.{data_of}
use Rattle.sift_judge.specs.Verdict.{clock_skew, exact_removal, ideal_outputs, no_false_accusation, same_inputs}
use Rattle.sift_judge.proofs.InTurn.{breaks, five_kept, four_kept, is_first, six_kept, three_kept, two_kept}
use Rattle.sift_judge.proofs.judging.first_with_margin.Goals as goal

pub returns-then-not-has_same_inputs-clause-found : goal.returns-then-not-has_same_inputs-clause-found
returns-then-not-has_same_inputs-clause-found c =
    let d = data_of c.args.mission.now in
    let lines = c.args.lines.now in
    let f = c.args.f in
    let margin = c.requires.known.margin_is.0 c.if-not-has_margin.false in
    is_first d lines f same_inputs (omega arith) (two_kept d lines f c.requires.configuration)
    (breaks d lines f same_inputs c.requires.known.frame margin c.has_same_inputs.result c.has_same_inputs.ensures c.if-not-has_same_inputs.true)

pub returns-then-not-has_ideal_outputs-clause-found : goal.returns-then-not-has_ideal_outputs-clause-found
returns-then-not-has_ideal_outputs-clause-found c =
    let d = data_of c.args.mission.now in
    let lines = c.args.lines.now in
    let f = c.args.f in
    let margin = c.requires.known.margin_is.0 c.if-not-has_margin.false in
    let three = c.has_same_inputs.ensures.0 c.if-not-has_same_inputs.false in
    is_first d lines f ideal_outputs (omega arith) (three_kept d lines f c.requires.configuration three)
    (breaks d lines f ideal_outputs c.requires.known.frame margin c.has_ideal_outputs.result c.has_ideal_outputs.ensures c.if-not-has_ideal_outputs.true)

pub returns-then-not-has_no_false_accusation-clause-found : goal.returns-then-not-has_no_false_accusation-clause-found
returns-then-not-has_no_false_accusation-clause-found c =
    let d = data_of c.args.mission.now in
    let lines = c.args.lines.now in
    let f = c.args.f in
    let margin = c.requires.known.margin_is.0 c.if-not-has_margin.false in
    let three = c.has_same_inputs.ensures.0 c.if-not-has_same_inputs.false in
    let four = c.has_ideal_outputs.ensures.0 c.if-not-has_ideal_outputs.false in
    is_first d lines f no_false_accusation (omega arith) (four_kept d lines f c.requires.configuration three four)
    (breaks d lines f no_false_accusation c.requires.known.frame margin c.has_no_false_accusation.result c.has_no_false_accusation.ensures c.if-not-has_no_false_accusation.true)

pub returns-then-not-has_exact_removal-clause-found : goal.returns-then-not-has_exact_removal-clause-found
returns-then-not-has_exact_removal-clause-found c =
    let d = data_of c.args.mission.now in
    let lines = c.args.lines.now in
    let f = c.args.f in
    let margin = c.requires.known.margin_is.0 c.if-not-has_margin.false in
    let three = c.has_same_inputs.ensures.0 c.if-not-has_same_inputs.false in
    let four = c.has_ideal_outputs.ensures.0 c.if-not-has_ideal_outputs.false in
    let five = c.has_no_false_accusation.ensures.0 c.if-not-has_no_false_accusation.false in
    is_first d lines f exact_removal (omega arith) (five_kept d lines f c.requires.configuration three four five)
    (breaks d lines f exact_removal c.requires.known.frame margin c.has_exact_removal.result c.has_exact_removal.ensures c.if-not-has_exact_removal.true)

pub returns-then-not-has_clock_skew-clause-found : goal.returns-then-not-has_clock_skew-clause-found
returns-then-not-has_clock_skew-clause-found c =
    let d = data_of c.args.mission.now in
    let lines = c.args.lines.now in
    let f = c.args.f in
    let margin = c.requires.known.margin_is.0 c.if-not-has_margin.false in
    let three = c.has_same_inputs.ensures.0 c.if-not-has_same_inputs.false in
    let four = c.has_ideal_outputs.ensures.0 c.if-not-has_ideal_outputs.false in
    let five = c.has_no_false_accusation.ensures.0 c.if-not-has_no_false_accusation.false in
    let six = c.has_exact_removal.ensures.0 c.if-not-has_exact_removal.false in
    is_first d lines f clock_skew (omega arith) (six_kept d lines f c.requires.configuration three four five six)
    (breaks d lines f clock_skew c.requires.known.frame margin c.has_clock_skew.result c.has_clock_skew.ensures c.if-not-has_clock_skew.true)

pub returns-clause-none : goal.returns-clause-none
returns-clause-none c = λ margin. record {
  same_inputs = c.has_same_inputs.ensures.0 c.if-not-has_same_inputs.false;
  ideal_outputs = c.has_ideal_outputs.ensures.0 c.if-not-has_ideal_outputs.false;
  no_false_accusation = c.has_no_false_accusation.ensures.0 c.if-not-has_no_false_accusation.false;
  exact_removal = c.has_exact_removal.ensures.0 c.if-not-has_exact_removal.false;
  clock_skew = c.has_clock_skew.ensures.0 c.if-not-has_clock_skew.false;
}

pub returns-then-not-has_margin-clause-runs : goal.returns-then-not-has_margin-clause-runs
returns-then-not-has_margin-clause-runs c =
    record {
      words_are = λ t. absurd (not_both c.args.has_margin t c.if-not-has_margin.true);
      as_many = c.requires.known.runs.as_many;
    }

pub returns-clause-runs : goal.returns-clause-runs
returns-clause-runs c =
    record { words_are = λ t. rw (add-one c.args.f) c.run_ideal.ensures.words; as_many = c.run_ideal.ensures.as_many }

pub returns-then-not-has_margin-clause-none : goal.returns-then-not-has_margin-clause-none
returns-then-not-has_margin-clause-none c =
    λ margin. absurd (fails c.args.has_margin _ c.requires.known.margin_is c.if-not-has_margin.true margin)

pub has_ideal_outputs-requires-clause-frame : goal.has_ideal_outputs-requires-clause-frame
has_ideal_outputs-requires-clause-frame c =
    c.requires.known.frame

pub run_ideal-requires : goal.run_ideal-requires
run_ideal-requires c =
    record {
      known = subst (λ b. KnowsBefore (data_of c.args.mission.now) c.args.lines.now c.args.f b c.args.ideal.now) c.if-not-has_margin.false c.requires.known;
    }

pub has_clock_skew-requires : goal.has_clock_skew-requires
has_clock_skew-requires c =
    record { frame = c.requires.known.frame }

pub has_exact_removal-requires : goal.has_exact_removal-requires
has_exact_removal-requires c =
    record { frame = c.requires.known.frame }

pub has_no_false_accusation-requires : goal.has_no_false_accusation-requires
has_no_false_accusation-requires c =
    record { frame = c.requires.known.frame }

pub has_same_inputs-requires : goal.has_same_inputs-requires
has_same_inputs-requires c =
    record { frame = c.requires.known.frame }
