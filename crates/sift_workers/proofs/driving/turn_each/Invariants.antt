use Rattle.std.proofs.Common.{◌<◌, ℕ, All, slice_index_or}
use Rattle.sift_workers.specs.Going.{IsHome, AtEachPlace}
use Rattle.sift_workers.proofs.driving.turn_each.Given as goal

abbrev pub invariant-loop-pilot : goal.invariant-loop-pilot
invariant-loop-pilot g l = record {
  drives : All g.P.Pilot.drives l.hand;
  comes : AtEachPlace (g.P.Pilot.comes) l.fn.hand l.hand;
  home : IsHome l.all → (i : ℕ) (d : g.row.P.Denot) → i < l.pilot-index → g.P.Pilot.is_home (slice_index_or l.hand i d);
}
