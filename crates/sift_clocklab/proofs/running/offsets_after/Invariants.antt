use Rattle.std.proofs.Common.{◌≡◌, ◌≤◌, map, vec_len, vec_capacity}
use Rattle.std.specs.List.{range_with_len}
use Rattle.sift_clocklab.specs.Laboratory.{laboratory_of, working_of}
use Rattle.sift_clocklab.specs.Rounds.{offset_after}
use Rattle.sift_clocklab.proofs.running.offsets_after.Given as goal

-- the offsets of the clocks so far
abbrev pub invariant-loop-own : goal.invariant-loop-own
invariant-loop-own l = record {
  after : l.after.items ≡ map (offset_after (laboratory_of l.lab) l.offsets l.shown) (range_with_len 0 l.own);
  each : vec_len l.after ≡ l.own;
  room : working_of (laboratory_of l.lab) ≤ vec_capacity l.after;
}
