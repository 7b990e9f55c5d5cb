use Rattle.std.proofs.Common.{◌≤◌}
use Rattle.sift_mission.specs.Parts.{flown_of}
use Rattle.sift_core.specs.Machines.{layout_of}
use Rattle.sift_core.proofs.Least.{IsLeastBelow}
use Rattle.sift_core.proofs.machine.Machine.least.Given as goal

-- the least of the units below the number
abbrev pub invariant-loop-number : goal.invariant-loop-number
invariant-loop-number l = record {
  within : l.number ≤ (layout_of l.self).units;
  least : IsLeastBelow (flown_of l.mission) l.self l.number l.below l.least;
}
