use Rattle.std.proofs.Common.{All}
use Rattle.sift_workers.specs.Going.{AtEachPlace}
use Rattle.sift_workers.proofs.driving.come_home.Given as goal

-- the pilots so far
abbrev pub invariant-loop : goal.invariant-loop
invariant-loop g l = record {
  can : (goal.iterator-loop g).can_next l.iterator' × (goal.iterator-loop g).is_finite l.iterator';
  drives : All g.P.Pilot.drives l.pilots;
  comes : AtEachPlace (g.P.Pilot.comes) l.fn.pilots l.pilots;
}
