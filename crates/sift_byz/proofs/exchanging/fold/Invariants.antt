use Rattle.std.proofs.Common.{◌≡◌, ◌≤◌, length, Some, map, vec_len, vec_capacity}
use Rattle.std.specs.List.{range_with_len}
use Rattle.sift_vote.specs.Majority.{agreed_of}
use Rattle.sift_byz.specs.Charts.{places_at}
use Rattle.sift_byz.specs.Plan.{byz_plan_of}
use Rattle.sift_byz.proofs.exchanging.fold.Given as goal

-- the places so far, in a chart that has room for all
abbrev pub invariant-loop-place : goal.invariant-loop-place
invariant-loop-place l = record {
  filled : l.chart.items ≡ map (λ i. Some (agreed_of (places_at (byz_plan_of l.plan) l.count l.heard l.longer i))) (range_with_len 0 l.place);
  each : vec_len l.chart ≡ l.place;
  room : length l.heard ≤ vec_capacity l.chart;
}
