use Rattle.std.proofs.Common.{◌≡◌, string_bytes}
use Rattle.std.specs.List.{flat_map, range_with_len}
use Rattle.sift_byz.specs.Plan.{byz_plan_of, vector}
use Rattle.sift_byz.specs.Text.{line_text}
use Rattle.sift_byz.proofs.vectors.vectors_text.Given as goal

-- the lines so far
abbrev pub invariant-loop-unit : goal.invariant-loop-unit
invariant-loop-unit l = string_bytes l.text ≡ flat_map (λ u. line_text (byz_plan_of l.plan) u (vector (byz_plan_of l.plan) u)) (range_with_len 0 l.unit)
