use Rattle.std.proofs.Common.{◌≢◌, ◌<◌, ◌≤◌, ℕ}
use Rattle.std.specs.Prelude.{slice_index}
use Rattle.sift_mission.proofs.timetable.Agenda.search.Given as goal

-- none so far has the time
abbrev pub invariant-loop-i : goal.invariant-loop-i
invariant-loop-i l = (i : ℕ) → l.from ≤ i → i < l.i → slice_index l.self.times i ≢ l.time
