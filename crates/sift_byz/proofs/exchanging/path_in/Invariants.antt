use Rattle.std.proofs.Common.{◌≡◌, ◌++◌, ◌-◌}
use Rattle.arrayvec.specs.ArrayVec.{array_vec_len}
use Rattle.sift_byz.specs.Charts.{path_in}
use Rattle.sift_byz.proofs.exchanging.path_in.Given as goal

-- the digits so far, and then those of the rest, are those of the row
abbrev pub invariant-loop-digit : goal.invariant-loop-digit
invariant-loop-digit l = record {
  long : array_vec_len l.path ≡ l._digit;
  so_far : l.path.items ++ path_in l.units (l.count - l._digit) l.rest ≡ path_in l.units l.count l.row;
}
