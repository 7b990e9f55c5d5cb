-- A schedule table as contracts see it: when each task is run and polled in a frame, at which positions of a configuration, and which tasks it sheds.
use Rattle.std.specs.Prelude.{ℕ, ◌+◌, ◌*◌, List, [], map, slice_index, slice_index_or}
use Rattle.std.specs.List.{range_with_len}
use Rattle.sift_table.specs.declared.table.Table.{Table}

-- a table for the configurations of one size. Entry t of run, poll and at belongs to task t, and position i stands for a configuration's
-- i-th unit; shed has the numbers of the tasks that the configurations leave out: no unit runs them, and their words stay what they were
pub record Schedule : Type 0 where
  pub size : ℕ
  pub period : ℕ
  pub run : List ℕ
  pub poll : List ℕ
  pub at : List (List ℕ)
  pub shed : List ℕ

-- the schedule that a value of the code stands for
abbrev pub schedule_of : Table → Schedule
schedule_of table = record {
  size = table.size;
  period = table.period;
  run = table.run.items;
  poll = table.poll.items;
  at = map (λ row. row.items) table.at.items;
  shed = table.shed.items;
}

-- the subframe in which task t runs
abbrev pub run_in : Schedule → ℕ → ℕ
run_in table t = slice_index table.run t

-- the subframe in which task t is polled
abbrev pub polled_in : Schedule → ℕ → ℕ
polled_in table t = slice_index table.poll t

-- the positions at which task t runs
abbrev pub positions_of : Schedule → ℕ → List ℕ
positions_of table t = slice_index_or table.at t []

-- the fewest subframes that a frame may have
abbrev pub shortest_period : ℕ
shortest_period = 12

-- the subframe in which the sensor words of a frame are agreed
abbrev pub agreed_in : ℕ
agreed_in = 4

-- so many subframes after its run a task is polled at the earliest, as every word is heard after it is said
abbrev pub hearing_delay : ℕ
hearing_delay = 2

-- the plain table sheds no task: it has each at all positions, the first when the sensor words are agreed, and each next one when the one before it is polled
abbrev pub plain_of : ℕ → ℕ → ℕ → Schedule
plain_of size period tasks = record {
  size = size;
  period = period;
  run = map (λ t. agreed_in + hearing_delay * t) (range_with_len 0 tasks);
  poll = map (λ t. agreed_in + hearing_delay * t + hearing_delay) (range_with_len 0 tasks);
  at = map (λ t. range_with_len 0 size) (range_with_len 0 tasks);
  shed = [];
}
