-- What holds of every plan.
use Rattle.std.specs.Prelude.{◌≡◌, ℕ, ◌+◌, ◌*◌, ◌<◌, ◌≤◌, length}
use Rattle.sift_base.specs.Shapes.{AllShapes}
use Rattle.sift_table.specs.Rules.{IsGood, report_lead}
use Rattle.sift_table.specs.Schedule.{Schedule, agreed_in, hearing_delay, run_in}
use Rattle.sift_planner.specs.Plans.{ArePlannable, HasNoRoom, IsPlan, IsWithinLimits, Wanted}

-- a plan meets all rules of schedule tables
abbrev pub PlansAreGood : Type 0
PlansAreGood = (shapes : AllShapes) (w : Wanted) (table : Schedule) → IsWithinLimits w → IsPlan shapes w table → IsGood table shapes

-- there is one plan at most
abbrev pub OnePlan : Type 0
OnePlan = (shapes : AllShapes) (w : Wanted) (one other : Schedule) → ArePlannable shapes → IsPlan shapes w one → IsPlan shapes w other → one ≡ other

-- where there is no room for a task there is no plan, and no other such task
abbrev pub OneRefusal : Type 0
OneRefusal =
    (shapes : AllShapes) (w : Wanted) (task : ℕ) → ArePlannable shapes → HasNoRoom shapes w task
    → ((table : Schedule) → ¬ IsPlan shapes w table) × ((other : ℕ) → HasNoRoom shapes w other → other ≡ task)

-- a frame that is long enough for the plain table has room for every task
abbrev pub LongFramesHaveRoom : Type 0
LongFramesHaveRoom =
    (shapes : AllShapes) (w : Wanted) (task : ℕ) → ArePlannable shapes
    → agreed_in + hearing_delay * length shapes.tasks + report_lead ≤ w.period → ¬ HasNoRoom shapes w task

-- no task runs later than in the plain table
abbrev pub PlansRunEarly : Type 0
PlansRunEarly =
    (shapes : AllShapes) (w : Wanted) (table : Schedule) (t : ℕ) → ArePlannable shapes → IsPlan shapes w table → t < length shapes.tasks
    → run_in table t ≤ agreed_in + hearing_delay * t
