use Rattle.std.proofs.Common.{ℕ, ◌<◌}
use Rattle.sift_planner.specs.Drafts.{drafted, rows_in}
use Rattle.sift_planner.specs.Earliest.{IsOpen}
use Rattle.sift_planner.proofs.draft.Draft.first_open.Given as goal

-- no subframe so far is open
abbrev pub invariant-loop-subframe : goal.invariant-loop-subframe
invariant-loop-subframe l = (e : ℕ) → e < l.subframe → ¬ IsOpen (drafted l.self) l.self.executors l.needs (rows_in l.self) e
