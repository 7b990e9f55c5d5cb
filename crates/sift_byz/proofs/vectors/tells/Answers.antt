use Rattle.std.proofs.Common.{◌≤◌, ◌-◌, length, ap, sym, arith}
use Rattle.std.proofs.lemmas.List.{nil_from_length}
use Rattle.sift_byz.specs.Plan.{stands_last}
use Rattle.sift_byz.proofs.Tellers.{stands_last-at}
use Rattle.sift_byz.proofs.vectors.tells.Goals as goal

-- the last unit stands at the last place
pub returns-in-len1-up : goal.returns-in-len1-up
returns-in-len1-up c =
    let path = c.args.lie.now.path.items in
    let long : 1 ≤ length path = rw c.as_slice.ensures.value at c.in-len1-up.len_at_least in
    rw c.as_slice.ensures.value (sym (stands_last-at c.args.unit path (length path - 1) 0 (omega (arith, long))))

-- no unit stands in an empty path
pub returns-in-empty : goal.returns-in-empty
returns-in-empty c =
    ap (stands_last c.args.unit) (sym (rw c.as_slice.ensures.value at (nil_from_length c.as_slice.result.now (omega (arith, c.in-empty.len_below)))))
