-- There is one plan, or one task without room.
use Rattle.std.proofs.Common.{◌≡◌, ℕ, zero, suc, ◌<◌, ◌≤◌, List, [], length, ap, sym, subst, ◌∙◌, inl, inr, arith}
use Rattle.std.proofs.lemmas.Bool.{cases_lt, cases_order}
use Rattle.std.proofs.lemmas.List.{ext_get_or}
use Rattle.sift_base.specs.Shapes.{AllShapes, shape_at}
use Rattle.sift_table.specs.Schedule.{Schedule, polled_in, positions_of, run_in}
use Rattle.sift_planner.specs.Laws.{OnePlan, OneRefusal}
use Rattle.sift_planner.specs.Plans.{ArePlannable, HasNoRoom, IsPlanned, Wanted, executors_of}
use Rattle.sift_planner.proofs.Same.{SameBefore, open_same, row_more}

-- a schedule is its six parts
pub same_schedule :
    (a b : Schedule) → a.size ≡ b.size → a.period ≡ b.period → a.run ≡ b.run → a.poll ≡ b.poll → a.at ≡ b.at → a.shed ≡ b.shed → a ≡ b
same_schedule a b size period run poll at shed =
    let with_size = λ (s : ℕ). let t : Schedule = record { size = s; period = a.period; run = a.run; poll = a.poll; at = a.at; shed = a.shed } in t in
    let with_period = λ (p : ℕ). let t : Schedule = record { size = b.size; period = p; run = a.run; poll = a.poll; at = a.at; shed = a.shed } in t in
    let with_run = λ (rs : List ℕ). let t : Schedule = record { size = b.size; period = b.period; run = rs; poll = a.poll; at = a.at; shed = a.shed } in t in
    let with_poll = λ (ps : List ℕ). let t : Schedule = record { size = b.size; period = b.period; run = b.run; poll = ps; at = a.at; shed = a.shed } in t in
    let with_at = λ (rows : List (List ℕ)). let t : Schedule = record { size = b.size; period = b.period; run = b.run; poll = b.poll; at = rows; shed = a.shed } in t in
    let with_shed = λ (ts : List ℕ). let t : Schedule = record { size = b.size; period = b.period; run = b.run; poll = b.poll; at = b.at; shed = ts } in t in
    ap with_size size ∙ ap with_period period ∙ ap with_run run ∙ ap with_poll poll ∙ ap with_at at ∙ ap with_shed shed

module _ (shapes : AllShapes) (w : Wanted) (plannable : ArePlannable shapes) where
  -- what holds of the rows before t and of row t holds of those before the next
  next : (P : ℕ → Type 0) (t : ℕ) → ((d : ℕ) → d < t → P d) → P t → (d : ℕ) → d < suc t → P d
  next P t before here d low = elim (cases_lt d t) [
    | inl earlier ↦ before d earlier
    | inr last ↦ let e : t ≡ d = omega (arith, low, last) in subst P e here
  ]

  -- tables that are planned for so many tasks have the same rows of as many
  pub planned_same :
      (one other : Schedule) (m n count : ℕ) → IsPlanned shapes w m one → IsPlanned shapes w n other → count ≤ m → count ≤ n → count ≤ length shapes.tasks
      → SameBefore one other count
  planned_same one other m n zero a b few_a few_b there = record {
    size = a.size ∙ sym b.size;
    period = a.period ∙ sym b.period;
    run = λ d low. absurd (omega (arith, low));
    poll = λ d low. absurd (omega (arith, low));
    at = λ d low. absurd (omega (arith, low));
  }
  planned_same one other m n (suc t) a b few_a few_b there =
      let before = planned_same one other m n t a b (omega (arith, few_a)) (omega (arith, few_b)) (omega (arith, there)) in
      let low : t < length shapes.tasks = omega (arith, there) in
      let row = row_more one other t before (executors_of w) (shape_at shapes t).needs (plannable.earlier t low) (a.rows t (omega (arith, few_a))) (b.rows t (omega (arith, few_b))) in
      record {
        size = before.size;
        period = before.period;
        run = next (λ d. run_in one d ≡ run_in other d) t before.run row.0;
        poll = next (λ d. polled_in one d ≡ polled_in other d) t before.poll row.1;
        at = next (λ d. positions_of one d ≡ positions_of other d) t before.at row.2;
      }

  -- so they are the same
  pub planned_once : (count : ℕ) (one other : Schedule) → count ≤ length shapes.tasks → IsPlanned shapes w count one → IsPlanned shapes w count other → one ≡ other
  planned_once count one other there a b =
      let same = planned_same one other count count count a b (omega arith) (omega arith) there in
      let run = ext_get_or 0 one.run other.run (a.runs ∙ sym b.runs) (λ i low. same.run i (omega (arith, low, a.runs))) in
      let poll = ext_get_or 0 one.poll other.poll (a.polls ∙ sym b.polls) (λ i low. same.poll i (omega (arith, low, a.polls))) in
      let at = ext_get_or [] one.at other.at (a.positions ∙ sym b.positions) (λ i low. same.at i (omega (arith, low, a.positions))) in
      same_schedule one other same.size same.period run poll at (a.none_shed ∙ sym b.none_shed)

  -- a task that has a row after the same rows has room
  pub room_there :
      (task count : ℕ) (table : Schedule) → HasNoRoom shapes w task → IsPlanned shapes w count table → task < count → ⊥
  room_there task count table none plan low =
      let before = planned_same table none.before count task task plan none.planned (omega (arith, low)) (omega arith) (omega (arith, none.there)) in
      none.shut (run_in table task)
      (open_same table none.before task before (executors_of w) (shape_at shapes task).needs (run_in table task) (plannable.earlier task none.there)
      (plan.rows task low).run.open_here)

-- tasks that can be planned have at most one plan
pub one_plan : OnePlan
one_plan shapes w one other plannable a b = planned_once shapes w plannable (length shapes.tasks) one other (omega arith) a b

-- where there is no room for a task there is no plan, and no other task without room
pub one_refusal : OneRefusal
one_refusal shapes w task plannable none = (
  (λ table plan. room_there shapes w plannable task (length shapes.tasks) table none plan none.there),
  (λ other again. elim (cases_order other task) [
    | inl equal ↦ equal
    | inr (inl before) ↦ absurd (room_there shapes w plannable other task none.before again none.planned before)
    | inr (inr after) ↦ absurd (room_there shapes w plannable task other again.before none again.planned after)
  ]),
)
