use Rattle.std.proofs.Common.{◌≡◌, ℕ, ◌<◌, ◌≤◌, false, slice_index}
use Rattle.sift_base.specs.Units.{has}
use Rattle.sift_table.specs.Schedule.{polled_in, run_in, schedule_of}
use Rattle.sift_table.proofs.rules.reads_polled_words.Given as goal

-- each task read so far that isn't shed is polled by the time the row's task runs
abbrev pub invariant-loop-needed : goal.invariant-loop-needed
invariant-loop-needed l =
    (k : ℕ) → k < l.needed-index → has (schedule_of l.table).shed (slice_index l.needed-items k) ≡ false
    → polled_in (schedule_of l.table) (slice_index l.needed-items k) ≤ run_in (schedule_of l.table) l.row
