use Rattle.std.proofs.Common.{arith}
use Rattle.sift_mission.specs.Parts.{data_of}
use Rattle.sift_judge.specs.Verdict.{same_configuration, true_margin}
use Rattle.sift_judge.proofs.InTurn.{breaks, breaks_if, is_first, none_below, seven_kept}
use Rattle.sift_judge.proofs.judging.first_broken.Goals as goal

pub returns-then-not-keeps_configuration-clause-found : goal.returns-then-not-keeps_configuration-clause-found
returns-then-not-keeps_configuration-clause-found c =
    let d = data_of c.args.mission.now in
    let lines = c.args.lines.now in
    let f = c.args.f in
    is_first d lines f same_configuration (omega arith) (none_below d lines f)
    (breaks_if d lines f same_configuration c.requires.known.frame c.args.had_margin c.requires.had c.keeps_configuration.result c.keeps_configuration.ensures
    c.if-not-keeps_configuration.true)

pub returns-then-not-has_true_margin-clause-found : goal.returns-then-not-has_true_margin-clause-found
returns-then-not-has_true_margin-clause-found c =
    let d = data_of c.args.mission.now in
    let lines = c.args.lines.now in
    let f = c.args.f in
    let two = c.keeps_configuration.ensures.0 c.if-not-keeps_configuration.false in
    is_first d lines f true_margin (omega arith) (seven_kept d lines f two c.in_default.ensures.none)
    (breaks d lines f true_margin c.requires.known.frame tt c.has_true_margin.result c.has_true_margin.ensures c.if-not-has_true_margin.true)

pub first_with_margin-requires-clause-configuration : goal.first_with_margin-requires-clause-configuration
first_with_margin-requires-clause-configuration c =
    c.keeps_configuration.ensures.0 c.if-not-keeps_configuration.false

pub returns-clause-none : goal.returns-clause-none
returns-clause-none c =
    record {
      same_configuration = c.keeps_configuration.ensures.0 c.if-not-keeps_configuration.false;
      frame = c.in_default.ensures.none;
      true_margin = c.has_true_margin.ensures.0 c.if-not-has_true_margin.false;
    }

pub has_true_margin-requires-clause-frame : goal.has_true_margin-requires-clause-frame
has_true_margin-requires-clause-frame c =
    c.requires.known.frame
