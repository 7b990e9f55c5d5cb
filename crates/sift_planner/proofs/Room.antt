-- The subframe in which the plain table runs a task is open for it, so the plan runs it there or earlier.
use Rattle.std.proofs.Common.{◌≡◌, ℕ, zero, suc, ◌+◌, ◌*◌, ◌<◌, ◌≤◌, List, [], ◌∷◌, length, get_or, true, not, nat_eq, ◌&&◌, inl, inr, ap, ◌∙◌, refl, arith}
use Rattle.std.proofs.lemmas.Bool.{and_left, cases_lt, ne_eqb}
use Rattle.std.proofs.lemmas.List.Elements.{filter_agree}
use Rattle.std.proofs.lemmas.List.FromFn.{length-range_with_len}
use Rattle.std.specs.List.{filter, range_with_len}
use Rattle.sift_base.specs.Shapes.{AllShapes, shape_at}
use Rattle.sift_base.specs.Units.{has}
use Rattle.sift_table.specs.Rules.{report_lead}
use Rattle.sift_table.specs.Schedule.{Schedule, agreed_in, hearing_delay, run_in, positions_of}
use Rattle.sift_planner.specs.Earliest.{IsOpen, free_positions, is_used}
use Rattle.sift_planner.specs.Laws.{LongFramesHaveRoom, PlansRunEarly}
use Rattle.sift_planner.specs.Plans.{ArePlannable, IsPlanned, Wanted, executors_of}
use Rattle.sift_planner.proofs.Ranges.{any_none}

-- a filter that everything passes keeps everything
filter_all : (vs : List ℕ) → filter (λ v. true) vs ≡ vs
filter_all [] = refl
filter_all (v ∷ vs) = ap (λ rest. v ∷ rest) (filter_all vs)

-- where no row before t runs in the subframe all positions are free
all_free : (table : Schedule) (t e : ℕ) → ((d : ℕ) → d < t → run_in table d < e) → length (free_positions table t e) ≡ table.size
all_free table t e before =
    let unused = λ (p : ℕ).
    any_none (λ d. nat_eq (run_in table d) e && has (positions_of table d) p) t
    (λ d low. and_left (nat_eq (run_in table d) e) (has (positions_of table d) p) (ne_eqb (run_in table d) e (λ same. omega (arith, before d low, same)))) in
    ap length (filter_agree (λ p. not (is_used table t e p)) (λ p. true) (λ p. ap not (unused p)) (range_with_len 0 table.size) ∙ filter_all (range_with_len 0 table.size))
    ∙ length-range_with_len 0 table.size

module _ (shapes : AllShapes) (w : Wanted) (plannable : ArePlannable shapes) where
  -- in a table that is planned so far, with rows no later than the plain table's, the plain table's subframe is open for the next task
  plain_open :
      (t count : ℕ) (table : Schedule) → IsPlanned shapes w count table → t ≤ count → t < length shapes.tasks
      → ((d : ℕ) → d < t → run_in table d ≤ agreed_in + hearing_delay * d)
      → agreed_in + hearing_delay * t + hearing_delay + report_lead ≤ w.period
      → IsOpen table (executors_of w) (shape_at shapes t).needs t (agreed_in + hearing_delay * t)
  plain_open t count table plan few low early long =
      let free = all_free table t (agreed_in + hearing_delay * t) (λ d before. omega (arith, early d before, before)) in record {
        in_time = record { agreed = omega arith; by_reports = omega (arith, long, plan.period) };
        needs_polled = λ i d inside.
            let needed = get_or (shape_at shapes t).needs i d in
            let earlier : needed < t = plannable.earlier t low i d inside in
            let poll = (plan.rows needed (omega (arith, earlier, few))).poll in
            omega (arith, poll, early needed earlier, earlier);
        room = omega (arith, free, plan.size);
      }

  -- each row runs no later than the plain table's
  runs_early :
      (t count : ℕ) (table : Schedule) → IsPlanned shapes w count table → t ≤ count → t ≤ length shapes.tasks
      → (d : ℕ) → d < t → run_in table d ≤ agreed_in + hearing_delay * d
  runs_early zero count table plan few low d before = absurd (omega (arith, before))
  runs_early (suc t) count table plan few low d before =
      let earlier = runs_early t count table plan (omega (arith, few)) (omega (arith, low)) in
      elim (cases_lt d t) [
        | inl less ↦ earlier d less
        | inr last ↦
            let at : d ≡ t = omega (arith, before, last) in
            let row = plan.rows t (omega (arith, few)) in
            let plain = agreed_in + hearing_delay * t in
            let early : run_in table t ≤ plain = elim (cases_lt plain (run_in table t)) [
              | inr within ↦ within
              | inl late ↦
                  absurd (row.run.least plain late
                  (plain_open t count table plan (omega (arith, few)) (omega (arith, low)) earlier
                  (omega (arith, late, row.run.open_here.in_time.by_reports, plan.period))))
            ] in
            rw at early
      ]

-- a plan runs no task later than the plain table does
pub plans_run_early : PlansRunEarly
plans_run_early shapes w table t plannable plan low =
    runs_early shapes w plannable (length shapes.tasks) (length shapes.tasks) table plan (omega arith) (omega arith) t low

-- a frame that is long enough for the plain table has room for every task
pub long_frames_have_room : LongFramesHaveRoom
long_frames_have_room shapes w task plannable long none =
    none.shut (agreed_in + hearing_delay * task)
    (plain_open shapes w plannable task task none.before none.planned (omega arith) none.there
    (runs_early shapes w plannable task task none.before none.planned (omega arith) (omega (arith, none.there)))
    (omega (arith, long, none.there)))
