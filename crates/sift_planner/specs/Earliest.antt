-- The earliest place of a task in a table, by the rows before it alone.
use Rattle.std.specs.Prelude.{◌≡◌, ℕ, ◌+◌, ◌<◌, ◌≤◌, List, length, take, Bool, not, ◌&&◌, nat_eq}
use Rattle.std.specs.List.{All, filter, list_any, range_with_len}
use Rattle.sift_base.specs.Units.{has}
use Rattle.sift_table.specs.Rules.{report_lead}
use Rattle.sift_table.specs.Schedule.{Schedule, agreed_in, hearing_delay, polled_in, positions_of, run_in}

-- some row before row t runs in the subframe at the position
abbrev pub is_used : Schedule → (t subframe position : ℕ) → Bool
is_used table t subframe position = list_any (λ d. nat_eq (run_in table d) subframe && has (positions_of table d) position) (range_with_len 0 t)

-- the positions at which no row before row t runs in the subframe, in ascending order
abbrev pub free_positions : Schedule → (t subframe : ℕ) → List ℕ
free_positions table t subframe = filter (λ position. not (is_used table t subframe position)) (range_with_len 0 table.size)

-- a task may run in the subframe: the sensor words are agreed, and what the task puts out is polled by the reports
pub record IsInTime (table : Schedule) (subframe : ℕ) : Type 0 where
  pub agreed : agreed_in ≤ subframe
  pub by_reports : subframe + hearing_delay + report_lead ≤ table.period

-- the subframe is open for the task of row t, which reads these tasks of the same frame: a task may run in it, what the task reads has
-- been polled, and as many positions are free as are to execute it
pub record IsOpen (table : Schedule) (executors : ℕ) (needs : List ℕ) (t subframe : ℕ) : Type 0 where
  pub in_time : IsInTime table subframe
  pub needs_polled : All (λ needed. polled_in table needed ≤ subframe) needs
  pub room : executors ≤ length (free_positions table t subframe)

-- it is the first that is open
pub record IsLeastOpen (table : Schedule) (executors : ℕ) (needs : List ℕ) (t subframe : ℕ) : Type 0 where
  pub open_here : IsOpen table executors needs t subframe
  pub least : (earlier : ℕ) → earlier < subframe → ¬ IsOpen table executors needs t earlier

-- row t is the earliest: its task runs in the least open subframe, at the least free positions, and is polled as soon as it can be heard
pub record IsEarliestRow (table : Schedule) (executors : ℕ) (needs : List ℕ) (t : ℕ) : Type 0 where
  pub run : IsLeastOpen table executors needs t (run_in table t)
  pub poll : polled_in table t ≡ run_in table t + hearing_delay
  pub at : positions_of table t ≡ take executors (free_positions table t (run_in table t))
