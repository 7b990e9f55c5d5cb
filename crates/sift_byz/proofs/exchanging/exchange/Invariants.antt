use Rattle.std.proofs.Common.{◌≡◌, ◌≤◌, map, vec_len, vec_capacity}
use Rattle.std.specs.List.{range_with_len}
use Rattle.sift_byz.specs.Plan.{byz_plan_of, vector}
use Rattle.sift_byz.proofs.exchanging.exchange.Given as goal

-- the vectors so far, in a chart that has room for all
abbrev pub invariant-loop-q : goal.invariant-loop-q
invariant-loop-q l = record {
  filled : map (λ row. row.items) l.rows.items ≡ map (vector (byz_plan_of l.plan)) (range_with_len 0 l.q);
  each : vec_len l.rows ≡ l.q;
  room : l.plan.units ≤ vec_capacity l.rows;
}
