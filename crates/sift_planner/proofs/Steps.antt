-- One task more in a plan, and one size more in the plans of all sizes.
use Rattle.std.proofs.Common.{◌≡◌, ℕ, suc, ◌+◌, ◌<◌, List, [], ◌∷◌, ◌++◌, length, map, take, get_or, inl, inr, ap, sym, subst, ◌∙◌, arith}
use Rattle.std.proofs.lemmas.Bool.{cases_lt}
use Rattle.std.proofs.lemmas.List.{get_or-map, get_or_append_left, get_or_push, length-append, length-map, map_push}
use Rattle.sift_base.specs.Shapes.{AllShapes, Shape, shape_at, shape_of, shapes_of}
use Rattle.sift_base.specs.declared.slots.Shapes.{Shapes}
use Rattle.sift_base.specs.declared.slots.TaskShape.{TaskShape}
use Rattle.sift_base.specs.Stop.{IfRefused}
use Rattle.sift_table.specs.Schedule.{Schedule, hearing_delay, schedule_of}
use Rattle.sift_table.specs.declared.table.Table.{Table}
use Rattle.sift_planner.specs.Drafts.{with_row}
use Rattle.sift_planner.specs.Earliest.{IsLeastOpen, free_positions}
use Rattle.sift_planner.specs.Plans.{ArePlannable, IsPlan, IsPlanned, Wanted, executors_of}
use Rattle.sift_planner.specs.Refused.{IfNoRoom, stop_at}
use Rattle.sift_planner.specs.Sizes.{table_at}
use Rattle.sift_planner.specs.declared.planning.PlanStop.{PlanStop}
use Rattle.sift_planner.specs.declared.planning.PlanStop.TheVariants.{NoRoom, NoMemory}
use Rattle.sift_planner.specs.declared.planning.NoRoomAt.{NoRoomAt}
use Rattle.sift_planner.proofs.Used.{planned_more}

-- the shape of a task that the code holds
pub shape_there :
    (shapes : Shapes) (t : ℕ) (task : TaskShape) → t < length shapes.tasks.items → task ≡ get_or shapes.tasks.items t task
    → shape_at (shapes_of shapes) t ≡ shape_of task
shape_there shapes t task low is =
    let none : Shape = record { outputs = 0; needs = [] } in
    get_or-map shape_of shapes.tasks.items t task none low ∙ ap shape_of (sym is)

-- a table that is planned for so many tasks, with the row that is found for the next
pub planned_next :
    (shapes : AllShapes) (w : Wanted) (t rows executors run : ℕ) (needs : List ℕ) (table new : Schedule) → ArePlannable shapes → t < length shapes.tasks
    → IsPlanned shapes w t table → rows ≡ t → executors ≡ executors_of w → needs ≡ (shape_at shapes t).needs
    → IsLeastOpen table executors needs rows run
    → new ≡ with_row table run (run + hearing_delay) (take executors (free_positions table rows run)) → IsPlanned shapes w (t + 1) new
planned_next shapes w t rows executors run needs table new plannable there plan same_rows same_executors same_needs first row =
    let least : IsLeastOpen table (executors_of w) (shape_at shapes t).needs t run =
    subst (λ (r : ℕ). IsLeastOpen table (executors_of w) (shape_at shapes t).needs r run) same_rows
    (subst (λ (k : ℕ). IsLeastOpen table k (shape_at shapes t).needs rows run) same_executors
    (subst (λ (ns : List ℕ). IsLeastOpen table executors ns rows run) same_needs first)) in
    let is : new ≡ with_row table run (run + hearing_delay) (take (executors_of w) (free_positions table t run)) =
    row ∙ ap (λ (k : ℕ). with_row table run (run + hearing_delay) (take k (free_positions table rows run))) same_executors
    ∙ ap (λ (r : ℕ). with_row table run (run + hearing_delay) (take (executors_of w) (free_positions table r run))) same_rows in
    let step : suc t ≡ t + 1 = omega arith in
    subst (λ (n : ℕ). IsPlanned shapes w n new) step
    (subst (λ (s : Schedule). IsPlanned shapes w (suc t) s) (sym is) (planned_more shapes w t table run plannable there plan least))

-- a table that is planned for all tasks that the code holds
pub planned_whole :
    (shapes : Shapes) (w : Wanted) (t : ℕ) (table : Schedule) → IsPlanned (shapes_of shapes) w t table → t ≡ length shapes.tasks.items
    → IsPlan (shapes_of shapes) w table
planned_whole shapes w t table plan all =
    subst (λ (n : ℕ). IsPlanned (shapes_of shapes) w n table) (all ∙ sym (length-map shapes.tasks.items shape_of)) plan

-- a task without room, or want of memory, at a size
pub refused_at :
    (P : ℕ → Type 0) (Q : NoRoomAt → Type 0) (size : ℕ) (stop : PlanStop) → ((task : ℕ) → P task → Q (record { size = size; task = task }))
    → IfNoRoom P stop → IfRefused Q (stop_at size stop)
refused_at P Q size (NoRoom task) from holds = from task holds
refused_at P Q size NoMemory from holds = tt

-- what holds of each table at its place holds with one more
pub tables_more :
    (P : ℕ → Schedule → Type 0) (tables : List Table) (table : Table)
    → ((i : ℕ) → i < length tables → P i (table_at (map schedule_of tables) i)) → P (length tables) (schedule_of table)
    → (i : ℕ) → i < length (tables ++ table ∷ []) → P i (table_at (map schedule_of (tables ++ table ∷ [])) i)
tables_more P tables table before here i low =
    let none : Schedule = record { size = 0; period = 0; run = []; poll = []; at = []; shed = [] } in
    let long = length-append tables (table ∷ []) in
    let as_many : length (map schedule_of tables) ≡ length tables = length-map tables schedule_of in
    elim (cases_lt i (length tables)) [
      | inl less ↦
          let same : table_at (map schedule_of (tables ++ table ∷ [])) i ≡ table_at (map schedule_of tables) i =
          ap (λ (ts : List Schedule). get_or ts i none) (map_push schedule_of tables table)
          ∙ get_or_append_left (map schedule_of tables) (schedule_of table ∷ []) none i (omega (arith, less, as_many)) in
          subst (P i) (sym same) (before i less)
      | inr last ↦
          let at : length tables ≡ i = omega (arith, last, low, long) in
          let same : table_at (map schedule_of (tables ++ table ∷ [])) i ≡ schedule_of table =
          ap (λ (ts : List Schedule). get_or ts i none) (map_push schedule_of tables table)
          ∙ get_or_push (map schedule_of tables) (schedule_of table) none i (as_many ∙ at) in
          subst (P i) (sym same) (subst (λ (n : ℕ). P n (schedule_of table)) at here)
    ]
