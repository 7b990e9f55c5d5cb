use Rattle.std.proofs.Common.{◌≤◌, ◌<◌, ℕ, length, map, take}
use Rattle.sift_byz.specs.Lawful.{BreaksFew}
use Rattle.sift_byz.specs.Plan.{lie_of}
use Rattle.sift_byz.proofs.Tellers.{AreTellers}
use Rattle.sift_byz.proofs.reading.check_few.Given as goal

-- the units that stand last so far, which are at most m
abbrev pub invariant-loop-place : goal.invariant-loop-place
invariant-loop-place l = record {
  tellers : AreTellers l.units (take l.place (map lie_of l.lies)) l.tellers.items;
  few : length l.tellers.items ≤ l.m;
  kept : (at : ℕ) → at < l.place → ¬ BreaksFew l.units l.m (map lie_of l.lies) at;
}
