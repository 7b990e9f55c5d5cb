use Rattle.std.proofs.Common.{◌≡◌, ◌∷◌, map, ◌≤◌}
use Rattle.std.specs.List.{range_with_len}
use Rattle.arrayvec.specs.ArrayVec.{array_vec_len}
use Rattle.sift_byz.specs.Charts.{relay_at}
use Rattle.sift_byz.specs.Plan.{byz_plan_of}
use Rattle.sift_byz.specs.Relaying.{outside}
use Rattle.sift_byz.proofs.exchanging.relays.Given as goal

-- the relays of the units so far
abbrev pub invariant-loop-r : goal.invariant-loop-r
invariant-loop-r l = record {
  filled : l.relays.items ≡ map (relay_at (byz_plan_of l.plan) l.longer l.row l.to) (outside (range_with_len 0 l.r) (l.to ∷ l.path));
  short : array_vec_len l.relays ≤ l.r;
}
