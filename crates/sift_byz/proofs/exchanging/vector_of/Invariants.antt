use Rattle.std.proofs.Common.{◌≡◌, map}
use Rattle.std.specs.List.{range_with_len}
use Rattle.arrayvec.specs.ArrayVec.{array_vec_len}
use Rattle.sift_byz.specs.Plan.{entry, byz_plan_of}
use Rattle.sift_byz.proofs.exchanging.vector_of.Given as goal

-- the entries so far
abbrev pub invariant-loop-s : goal.invariant-loop-s
invariant-loop-s l = record {
  filled : l.row.items ≡ map (entry (byz_plan_of l.plan) l.q) (range_with_len 0 l.s);
  long : array_vec_len l.row ≡ l.s;
}
