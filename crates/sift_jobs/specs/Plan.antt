-- The command `plan`: the tables of a plan for the configurations of all sizes.
use Rattle.std.specs.Prelude.{codes, ℕ, ◌≡◌, ◌≤◌, ◌⊎◌, false, List, [], ◌∷◌, Option, Some, None}
use Rattle.std.specs.Fmt.{decimal}
use Rattle.std.specs.List.{concat}
use Rattle.sift_base.specs.Units.{unit_limit}
use Rattle.sift_mission.specs.Data.{MissionData, shapes_in}
use Rattle.sift_options.specs.Options.{Allowed, Given, any_number, within}
use Rattle.sift_planner.specs.declared.planning.NoRoomAt.{NoRoomAt}
use Rattle.sift_planner.specs.Plans.{longest_period}
use Rattle.sift_planner.specs.Sizes.{ArePlans, IsFirstWithoutRoom}
use Rattle.sift_planner.specs.Text.{tables_text}
use Rattle.sift_reply.specs.Reply.{Reply, done, done_status}
use Rattle.sift_row.specs.Row.{Mission, Row}
use Rattle.sift_table.specs.Rules.{least_executors}
use Rattle.sift_table.specs.Schedule.{Schedule, shortest_period}

-- ---- what options ask for

-- how many units are to run each task, and how many subframes a frame has
pub record PlanNumbers : Type 0 where
  pub copies : ℕ
  pub period : ℕ

-- they are within the limits of tables
pub record AreWithinLimits (numbers : PlanNumbers) : Type 0 where
  pub enough_copies : least_executors ≤ numbers.copies
  pub few_copies : numbers.copies ≤ unit_limit
  pub long : shortest_period ≤ numbers.period
  pub short : numbers.period ≤ longest_period

-- a plan with these numbers, where both are there
abbrev pub plan_with : (copies period : Option ℕ) → Option PlanNumbers
plan_with (Some copies) (Some period) = Some (record { copies = copies; period = period })
plan_with copies period = None

-- the options
abbrev pub copies_flag : Allowed
copies_flag = any_number (codes "--copies")

abbrev pub subframes_flag : Allowed
subframes_flag = any_number (codes "--subframes")

-- what options ask for: both have to be given, in their ranges
abbrev pub plan_job_of : Given → Option PlanNumbers
plan_job_of options = plan_with (within least_executors unit_limit (options copies_flag.name))
    (within shortest_period longest_period (options subframes_flag.name))

-- ---- what it gives

-- the reply where this is the least size for which there is no plan, and this the first task without room there
abbrev pub no_room : NoRoomAt → Reply
no_room none = record { status = 14; text = concat (codes "no room " ∷ decimal none.size ∷ codes " task " ∷ decimal none.task ∷ codes "\n" ∷ []) }

-- the text of the plans of all sizes for the mission's tasks, whatever its own tables are, or that a task has no room
abbrev pub PlanGives : PlanNumbers → MissionData → Reply → Type 0
PlanGives numbers mission came =
    ((tables : List Schedule) × ArePlans (shapes_in mission) mission.units numbers.period numbers.copies tables × (came ≡ done (tables_text tables)))
    ⊎ ((none : NoRoomAt) × IsFirstWithoutRoom (shapes_in mission) mission.units numbers.period numbers.copies none × (came ≡ no_room none))

-- its row
abbrev pub plan_row : Row PlanNumbers
plan_row = record {
  word = codes "plan";
  flags = copies_flag ∷ subframes_flag ∷ [];
  job_of = plan_job_of;
  does = λ numbers. Mission false (PlanGives numbers);
  statuses = done_status ∷ 14 ∷ [];
  by_one = λ numbers. numbers;
}
