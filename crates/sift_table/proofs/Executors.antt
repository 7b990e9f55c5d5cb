-- What the rules say of when and where tasks run.
use Rattle.std.proofs.Common.{◌≡◌, ℕ, zero, suc, ◌+◌, ◌<◌, ◌≤◌, inl, inr, List, [], ◌∷◌, length, Bool, true, false, cond, ap, subst, sym, ◌∙◌, ◌||◌, arith, eqb, eq-eqb, eqb-true, count_by}
use Rattle.std.proofs.lemmas.Bool.{cases_eq, cases_Bool, cases_order, true≢false}
use Rattle.std.proofs.lemmas.List.Elements.{All-contains, recursion_from_All}
use Rattle.std.specs.List.{AllByRecursion, range_with_len}
use Rattle.sift_base.specs.Requirement.{AreMet}
use Rattle.sift_base.specs.Shapes.{AllShapes, shape_at}
use Rattle.sift_base.specs.Units.{has, IsAscending}
use Rattle.sift_base.specs.declared.slots.Slot.TheVariants.{Clock, Sense, RelaySense, Out, Report, RelayReport}
use Rattle.sift_base.specs.laws.Counts.{IsBelowAll, count-cons}
use Rattle.sift_table.specs.Laws.{PositionsRunOneTaskAtATime, ShedTasksAreLeftOut, SlotsAreHeardInTime, TasksHaveThreeExecutors, TasksRunAfterTheirNeeds}
use Rattle.sift_table.specs.Rules.{IsGood, IsLeftOut, rules_where}
use Rattle.sift_table.specs.Schedule.{Schedule, polled_in, positions_of, run_in}
use Rattle.sift_table.specs.Timing.{task_of}
use Rattle.sift_table.proofs.Words.{words_have_their_task}

-- a task that isn't shed meets the rules of its row
run_row : (table : Schedule) (shapes : AllShapes) (t : ℕ) → IsGood table shapes → t < length shapes.tasks → has table.shed t ≡ false
    → AreMet (rules_where false table shapes t)
run_row table shapes t good low kept = rw kept at (good.rows t low)

-- and one that is shed is left out
shed_row : (table : Schedule) (shapes : AllShapes) (t : ℕ) → IsGood table shapes → t < length shapes.tasks → has table.shed t ≡ true → IsLeftOut table t
shed_row table shapes t good low shed = (rw shed at (good.rows t low)).0

-- what holds of each number of a list holds of one that the list has
all_has : (P : ℕ → Type 0) (ps : List ℕ) (p : ℕ) → AllByRecursion P ps → has ps p ≡ true → P p
all_has P [] p all there = absurd cc
all_has P (v ∷ ps) p all there = elim (cases_Bool (eqb v p)) [
  | inl same ↦ subst P (eqb-true v p same) all.0
  | inr other ↦ all_has P ps p all.1 (rw other at there)
]

-- a good table gives no subframes of its own to a task that it sheds
pub shed_tasks_are_left_out : ShedTasksAreLeftOut
shed_tasks_are_left_out table shapes t good shed =
    let low : t < length shapes.tasks = all_has (λ k. k < length shapes.tasks) table.shed t
    (recursion_from_All (λ k. k < length shapes.tasks) table.shed good.whole.1.0.1) shed in
    let left = shed_row table shapes t good low shed in
    (low, left.0, left.1)

-- under a good table a word is heard 2 subframes or more before the frame's end, and 2 after it is said unless shed
pub slots_are_heard_in_time : SlotsAreHeardInTime
slots_are_heard_in_time table shapes layout Clock good long words there = (λ kept. omega arith, omega arith)
slots_are_heard_in_time table shapes layout (Sense x) good long words there = (λ kept. omega arith, omega arith)
slots_are_heard_in_time table shapes layout (RelaySense x) good long words there = (λ kept. omega arith, omega arith)
slots_are_heard_in_time table shapes layout (Out w) good long words there =
    let t = task_of shapes.tasks w in
    let low = (words_have_their_task shapes).1 w (omega (arith, there, words)) in elim (cases_Bool (has table.shed t)) [
      | inl shed ↦ let left = shed_row table shapes t good low shed in (λ kept. absurd (true≢false (sym shed ∙ kept)), omega (arith, left.1))
      | inr kept ↦ let row = run_row table shapes t good low kept in (λ kept. row.1.1.0, omega (arith, row.1.0))
    ]
slots_are_heard_in_time table shapes layout Report good long words there = (λ kept. omega arith, omega arith)
slots_are_heard_in_time table shapes layout (RelayReport u) good long words there = (λ kept. omega arith, omega arith)

-- what a task that isn't shed reads of this frame is polled by its run: a task that is shed is polled at 0
pub tasks_run_after_their_needs : TasksRunAfterTheirNeeds
tasks_run_after_their_needs table shapes t good low kept =
    let row = run_row table shapes t good low kept in (
      row.0,
      λ needed there. elim (cases_Bool (has table.shed needed)) [
        | inl shed ↦ let left = (shed_tasks_are_left_out table shapes needed good shed).2 in omega (arith, left)
        | inr polled ↦ All-contains (λ d. has table.shed d ≡ false → polled_in table d ≤ run_in table t) (shape_at shapes t).needs needed row.1.1.1.1.1.1.0 there polled
      ],
    )

-- ---- executors

-- what passes one of two tests passes them together
cond-or_more : (one other : Bool) → cond other 1 0 ≤ cond (one || other) 1 0
cond-or_more true true = omega arith
cond-or_more true false = omega arith
cond-or_more false other = omega arith

-- a longer list has no fewer of some numbers
count-has-more : (v : ℕ) (ps xs : List ℕ) → count_by (has ps) xs ≤ count_by (has (v ∷ ps)) xs
count-has-more v ps [] = omega arith
count-has-more v ps (x ∷ xs) =
    omega (arith, count-has-more v ps xs, count-cons (has ps) x xs, count-cons (has (v ∷ ps)) x xs, cond-or_more (eqb v x) (has ps x))

-- what follows a number in an ascending list is above all that the number isn't below
above : (p a : ℕ) (ps : List ℕ) → a ≤ p → IsBelowAll p ps → AllByRecursion (λ q. a + 1 ≤ q) ps
above p a [] from below = tt
above p a (q ∷ ps) from below = (omega (arith, below.0), above p a ps from below.1)

-- the numbers from a to below b are counted whole where an ascending list has only such numbers
counted_whole : (ps : List ℕ) (a n b : ℕ) → a + n ≡ b → IsAscending ps → AllByRecursion (λ p. a ≤ p) ps → AllByRecursion (λ p. p < b) ps
    → length ps ≤ count_by (has ps) (range_with_len a n)
counted_whole [] a n b end up low high = omega arith
counted_whole (p ∷ ps) a zero b end up low high = absurd (omega (arith, low.0, high.0))
counted_whole (p ∷ ps) a (suc n) b end up low high =
    let rest = range_with_len (a + 1) n in
    let count : count_by (has (p ∷ ps)) (a ∷ rest) ≡ cond (has (p ∷ ps) a) 1 0 + count_by (has (p ∷ ps)) rest = count-cons (has (p ∷ ps)) a rest in
    elim (cases_eq p a) [
      | inl same ↦
          let here : has (p ∷ ps) a ≡ true = ap (λ t. t || has ps a) (eq-eqb p a same) in
          let one : ◌≡◌ {A = ℕ} (cond (has (p ∷ ps) a) 1 0) 1 = ap (λ t. cond t 1 0) here in
          omega (arith, count, one, counted_whole ps (a + 1) n b (omega arith) up.1 (above p a ps low.0 up.0) high.1, count-has-more p ps rest)
      | inr other ↦
          omega (arith, count, counted_whole (p ∷ ps) (a + 1) n b (omega arith) up (omega (arith, low.0, other), above p a ps low.0 up.0) high)
    ]

-- every number is 0 or more
none_below : (ps : List ℕ) → AllByRecursion (λ p. 0 ≤ p) ps
none_below [] = tt
none_below (p ∷ ps) = (omega arith, none_below ps)

-- under a good table a task runs at three or more of a configuration's positions, and one that is shed at none
pub tasks_have_three_executors : TasksHaveThreeExecutors
tasks_have_three_executors table shapes t good there =
    let ps = positions_of table t in elim (cases_Bool (has table.shed t)) [
      | inl shed ↦
          let nowhere : ps ≡ [] = (shed_row table shapes t good there shed).2 in
          (λ kept. absurd (true≢false (sym shed ∙ kept)), λ position here. absurd (true≢false (sym here ∙ ap (λ qs. has qs position) nowhere)))
      | inr kept ↦
          let row = run_row table shapes t good there kept in
          let inside : AllByRecursion (λ p. p < table.size) ps = recursion_from_All (λ p. p < table.size) ps row.1.1.1.1.0 in
          let whole = counted_whole ps 0 table.size table.size (omega arith) row.1.1.1.1.1.0 (none_below ps) inside in
          (λ kept. omega (arith, whole, row.1.1.1.0), λ position here. (kept, all_has (λ p. p < table.size) ps position inside here))
    ]

-- two tasks of one subframe share no position: each is tested against those before it
pub positions_run_one_task_at_a_time : PositionsRunOneTaskAtATime
positions_run_one_task_at_a_time table shapes t other position good low other_low different same here = elim (cases_Bool (has (positions_of table other) position)) [
  | inr apart ↦ apart
  | inl there ↦
      let kept = ((tasks_have_three_executors table shapes t good low).1 position here).0 in
      let other_kept = ((tasks_have_three_executors table shapes other good other_low).1 position there).0 in
      elim (cases_order t other) [
        | inl is ↦ absurd (different is)
        | inr (inl before) ↦ (run_row table shapes other good other_low other_kept).1.1.1.1.1.1.1.0 t before kept same position here
        | inr (inr after) ↦
            absurd (true≢false (sym here ∙ (run_row table shapes t good low kept).1.1.1.1.1.1.1.0 other after other_kept (sym same) position there))
      ]
]
