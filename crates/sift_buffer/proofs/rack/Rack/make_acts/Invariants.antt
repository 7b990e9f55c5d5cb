use Rattle.std.proofs.Common.{◌≤◌, vec_capacity}
use Rattle.sift_buffer.specs.Crews.{IsCrew}
use Rattle.sift_buffer.proofs.rack.Rack.make_acts.Given as goal

-- the acts of the units below the number
abbrev pub invariant-loop-number : goal.invariant-loop-number
invariant-loop-number l = record {
  within : l.number ≤ l.layout.units;
  room : l.layout.units ≤ vec_capacity l.all;
  crew : IsCrew l.all.items l.number l.layout l.frames;
}
