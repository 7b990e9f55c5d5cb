use Rattle.std.proofs.Common.{◌≡◌, ◌≤◌, map}
use Rattle.std.specs.List.{range_with_len}
use Rattle.arrayvec.specs.ArrayVec.{array_vec_len}
use Rattle.sift_base.specs.Units.{others}
use Rattle.sift_clocklab.specs.Laboratory.{laboratory_of}
use Rattle.sift_clocklab.specs.Rounds.{reading_of}
use Rattle.sift_clocklab.proofs.running.readings.Given as goal

-- what it reads of the clocks so far
abbrev pub invariant-loop-other : goal.invariant-loop-other
invariant-loop-other l = record {
  read : l.readings.items
      ≡ map (reading_of (laboratory_of l.lab) l.offsets l.shown l.own) (others l.own (range_with_len 0 l.other));
  few : array_vec_len l.readings ≤ l.other;
}
