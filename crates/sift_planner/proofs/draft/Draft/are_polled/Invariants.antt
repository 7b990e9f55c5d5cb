use Rattle.std.proofs.Common.{ℕ, ◌<◌, ◌≤◌, slice_index}
use Rattle.sift_table.specs.Schedule.{polled_in}
use Rattle.sift_planner.specs.Drafts.{drafted}
use Rattle.sift_planner.proofs.draft.Draft.are_polled.Given as goal

-- each task so far has been polled by the subframe
abbrev pub invariant-loop-needed : goal.invariant-loop-needed
invariant-loop-needed l = (k : ℕ) → k < l.needed-index → polled_in (drafted l.self) (slice_index l.needs k) ≤ l.subframe
