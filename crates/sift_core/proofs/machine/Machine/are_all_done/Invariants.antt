use Rattle.std.proofs.Common.{◌≡◌, ℕ, ◌<◌, ◌≤◌, slice_index}
use Rattle.sift_mission.specs.Parts.{data_of}
use Rattle.sift_core.specs.Courses.{lefts}
use Rattle.sift_core.specs.Machines.{layout_of, progress_at}
use Rattle.sift_core.proofs.machine.Machine.are_all_done.Given as goal

-- the units below the number are done
abbrev pub invariant-loop-number : goal.invariant-loop-number
invariant-loop-number l = (l.number ≤ (layout_of l.fn.self).units)
    × ((p : ℕ) → p < l.number → (l.end ≤ progress_at l.fn.self p) × (slice_index (lefts (data_of l.fn.mission) l.fn.self) p ≡ 0))
