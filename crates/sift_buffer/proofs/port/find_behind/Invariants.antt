use Rattle.std.proofs.Common.{◌≤◌, []}
use Rattle.sift_buffer.specs.Counts.{others_below}
use Rattle.sift_buffer.specs.Views.{LooksRound}
use Rattle.sift_buffer.proofs.port.find_behind.Given as goal

-- each other unit below the number was looked at, and found at the own progress or more
abbrev pub invariant-loop-number : goal.invariant-loop-number
invariant-loop-number g l = record {
  follows : g.L.Look.follows l.fn.port [] l.port;
  steps : g.L.Look.makes l.fn.port (others_below (g.L.Look.view l.fn.port).unit l.number) l.port;
  within : l.number ≤ l.units;
  looks_round : LooksRound (g.L.Look.view l.fn.port) l.number (g.L.Look.view l.port);
}
