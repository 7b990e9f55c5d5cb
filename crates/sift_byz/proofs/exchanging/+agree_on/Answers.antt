use Rattle.std.proofs.Common.{◌<◌, add-one, arith}
use Rattle.std.proofs.lemmas.Result.{IfOk-weaker}
use Rattle.sift_byz.specs.Charts.{ShowsResults}
use Rattle.sift_byz.specs.Plan.{byz_plan_of}
use Rattle.sift_byz.proofs.Charts.{round_more}
use Rattle.sift_byz.proofs.exchanging.+agree_on.Goals as goal

-- the chart is folded from the longer results, which have a round fewer behind them
pub returns : goal.returns
returns t c =
    let plan = byz_plan_of c.args.plan.now in
    let some : 0 < c.args.rounds = omega (arith, c.if-rounds-eq0.false) in
    let folded = c.fold.ensures in
    IfOk-weaker c.fold.result _ (λ chart. ShowsResults plan c.args.count c.args.rounds chart.items)
    (λ chart folds. round_more plan c.args.count c.args.rounds c.deref-3.result.now chart.items some (rw c.deref-3.ensures.value c.in_ok-longer.ensures) folds) folded

-- the longer results are of the paths of one unit more
pub fold-requires-clause-relayed : goal.fold-requires-clause-relayed
fold-requires-clause-relayed t c =
    rw (c.deref-2.ensures.value, c.deref-3.ensures.value) (record {
      short = omega (arith, c.requires.short, c.if-rounds-eq0.false);
      shown = c.requires.heard;
      long = rw add-one at c.in_ok-longer.ensures.long;
    })

-- one round fewer is left
pub agree_on-requires : goal.agree_on-requires
agree_on-requires t c = (omega arith, (c.requires.range, (omega arith, rw add-one c.in_ok-relayed.ensures)))

pub hear-requires : goal.hear-requires
hear-requires t c = record { range = c.requires.range; short = omega arith; heard = rw c.deref.ensures.value c.requires.heard }
