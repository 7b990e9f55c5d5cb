use Rattle.std.proofs.Common.{◌≡◌, ◌≤◌, ◌*◌, length, map, vec_len, vec_capacity}
use Rattle.std.specs.List.{range_with_len}
use Rattle.sift_byz.specs.Charts.{heard_at}
use Rattle.sift_byz.specs.Plan.{byz_plan_of}
use Rattle.sift_byz.proofs.exchanging.hear.Given as goal

-- the places so far, in a chart that has room for all
abbrev pub invariant-loop-place : goal.invariant-loop-place
invariant-loop-place l = record {
  filled : l.chart.items ≡ map (heard_at (byz_plan_of l.plan) l.count l.before) (range_with_len 0 l.place);
  each : vec_len l.chart ≡ l.place;
  room : length l.before * l.plan.units ≤ vec_capacity l.chart;
}
