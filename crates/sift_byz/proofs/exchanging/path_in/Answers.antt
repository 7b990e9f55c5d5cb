use Rattle.std.proofs.Common.{◌+◌, ap, ◌∙◌}
use Rattle.sift_byz.proofs.Charts.{digit_more}
use Rattle.sift_byz.proofs.exchanging.path_in.Goals as goal

-- one digit more
pub loop-digit-preserved : goal.loop-digit-preserved
loop-digit-preserved c =
    record {
      long = c.push.ensures.len ∙ ap (λ n. n + 1) c.loop-digit.invariant.long;
      so_far = digit_more c.args.units c.args.count c.loop-digit._digit c.loop-digit.rest c.args.row _ _ c.loop-digit-test.true c.push.ensures.items
          c.loop-digit.invariant.so_far;
    }
