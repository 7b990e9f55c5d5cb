use Rattle.std.proofs.Common.{◌≡◌, ◌*◌, ◌^◌, pos, take}
use Rattle.sift_clock.specs.Distance.{IsWithin}
use Rattle.sift_clock.specs.Correction.{counted_sum}
use Rattle.sift_clock.proofs.correcting.correction.Given as goal

-- the readings so far are summed, and each of them is a number of 32 bits
abbrev pub invariant-loop-reading : goal.invariant-loop-reading
invariant-loop-reading l = record {
  summed : l.sum ≡ counted_sum l.limit (take l.reading-index l.readings);
  small : IsWithin (pos (l.reading-index * 2 ^ 31)) l.sum (pos 0);
}
