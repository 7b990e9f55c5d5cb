-- Why there is no plan.
use Rattle.std.specs.Prelude.{ℕ, ⊤}
use Rattle.sift_base.specs.declared.stop.Stop.{Stop}
use Rattle.sift_base.specs.declared.stop.Stop.TheVariants as stop
use Rattle.sift_planner.specs.declared.planning.PlanStop.{PlanStop}
use Rattle.sift_planner.specs.declared.planning.PlanStop.TheVariants.{NoRoom, NoMemory}
use Rattle.sift_planner.specs.declared.planning.NoRoomAt.{NoRoomAt}

-- where there is no room for a task this holds of it; want of memory says nothing
abbrev pub IfNoRoom : (ℕ → Type 0) → PlanStop → Type 0
IfNoRoom Is (NoRoom task) = Is task
IfNoRoom Is NoMemory = ⊤

-- the same at a size
abbrev pub stop_at : (size : ℕ) → PlanStop → Stop NoRoomAt
stop_at size (NoRoom task) = stop.Refused (record { size = size; task = task })
stop_at size NoMemory = stop.NoMemory
