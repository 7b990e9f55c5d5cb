use Rattle.std.proofs.Common.{◌≡◌, map, arith, ap, ◌∙◌}
use Rattle.std.specs.List.{range_with_len}
use Rattle.sift_byz.specs.Plan.{entry, byz_plan_of}
use Rattle.sift_byz.proofs.Growing.{grown}
use Rattle.sift_byz.proofs.exchanging.vector_of.Goals as goal

-- one entry more
pub loop-s-preserved : goal.loop-s-preserved
loop-s-preserved c =
    record {
      filled = grown (entry (byz_plan_of c.args.plan.now) c.args.q) _ _ _ _ c.loop-s.invariant.filled c.push.ensures.items c.entry_of.ensures;
      long = omega (arith, c.push.ensures.len, c.loop-s.invariant.long);
    }

-- all entries
pub returns : goal.returns
returns c =
    let all : c.loop-s.s ≡ c.args.plan.now.units = omega (arith, c.loop-s.auto, c.loop-s-test.false) in
    c.loop-s.invariant.filled ∙ ap (λ n. map (entry (byz_plan_of c.args.plan.now) c.args.q) (range_with_len 0 n)) all
