use Rattle.std.proofs.Common.{All}
use Rattle.sift_workers.specs.Going.{IsHome, AtEachPlace}
use Rattle.sift_workers.proofs.driving.drive_on.Given as goal

-- the pilots so far
abbrev pub invariant-loop : goal.invariant-loop
invariant-loop g l = record {
  can : (goal.iterator-loop g).can_next l.iterator' × (goal.iterator-loop g).is_finite l.iterator';
  drives : All g.P.Pilot.drives l.hand;
  comes : AtEachPlace (g.P.Pilot.comes) l.fn.hand l.hand;
  home : IsHome l.went → All g.P.Pilot.is_home l.hand;
}
