use Rattle.std.proofs.Common.{◌≡◌, ◌≤◌, Some, map, vec_len, vec_capacity}
use Rattle.std.specs.List.{range_with_len}
use Rattle.sift_byz.specs.Plan.{byz_plan_of, value_of}
use Rattle.sift_byz.proofs.exchanging.own_values.Given as goal

-- the values so far, in a chart that has room for all
abbrev pub invariant-loop-unit : goal.invariant-loop-unit
invariant-loop-unit l = record {
  filled : l.chart.items ≡ map (λ u. Some (value_of (byz_plan_of l.plan) u)) (range_with_len 0 l.unit);
  each : vec_len l.chart ≡ l.unit;
  room : l.plan.units ≤ vec_capacity l.chart;
}
