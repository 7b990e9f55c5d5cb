-- One row more in a table that is planned, and in the counts of used positions.
use Rattle.std.proofs.Common.{◌≡◌, ℕ, zero, suc, ◌+◌, ◌-◌, ◌<◌, ◌≤◌, List, [], ◌∷◌, length, take, set, Bool, not, ◌||◌, ◌&&◌, nat_eq, ltb, eqb, inl, inr, ap, sym, subst, ◌∙◌, refl, arith, length-append}
use Rattle.std.specs.Prelude.{nat_lt, slice_index}
use Rattle.std.proofs.lemmas.Bool.{cases_eq, cases_lt, eq-eqb, le-ltb, lt-ltb, ne_eqb}
use Rattle.std.proofs.lemmas.Bool.Decides.{nat_tests}
use Rattle.std.proofs.lemmas.List.{get_or-set_other, get_or-set_same, get_or_append_left, get_or_push, length-set}
use Rattle.std.proofs.lemmas.List.FromFn.{length-range_with_len}
use Rattle.std.specs.List.{filter, range_with_len}
use Rattle.sift_base.specs.Shapes.{AllShapes, shape_at}
use Rattle.sift_base.specs.Units.{has}
use Rattle.sift_base.specs.laws.ReadBack.{or_false, or_assoc}
use Rattle.sift_table.specs.Rules.{report_lead}
use Rattle.sift_table.specs.Schedule.{Schedule, hearing_delay, polled_in, positions_of, run_in}
use Rattle.sift_planner.specs.Drafts.{IsKept, TellsUsed, drafted, rows_in, with_row}
use Rattle.sift_planner.specs.declared.draft.Draft.{Draft}
use Rattle.sift_planner.specs.Earliest.{IsEarliestRow, IsLeastOpen, free_positions, is_used}
use Rattle.sift_planner.specs.Plans.{ArePlannable, IsPlanned, Wanted, executors_of, longest_period}
use Rattle.sift_planner.proofs.Ranges.{any_more, any_none, take-range}
use Rattle.sift_planner.proofs.Same.{SameBefore, free_same, least_same, row_same, same_earlier, used_same}

-- ---- used positions that are the first

-- consecutive numbers from m on are all m or more
none_left : (uses : ℕ → Bool) (m a n : ℕ) → ((p : ℕ) → uses p ≡ ltb p m) → m ≤ a → filter (λ p. not (uses p)) (range_with_len a n) ≡ range_with_len a n
none_left uses m a zero are from = refl
none_left uses m a (suc n) are from =
    rw (are a, le-ltb a m from) (ap (λ rest. a ∷ rest) (none_left uses m (a + 1) n are (omega (arith, from))))

-- consecutive numbers without those below m
left_from :
    (uses : ℕ → Bool) (m a n : ℕ) → ((p : ℕ) → uses p ≡ ltb p m) → a ≤ m → m ≤ a + n
    → filter (λ p. not (uses p)) (range_with_len a n) ≡ range_with_len m (a + n - m)
left_from uses m a zero are low high = ap (range_with_len m) (let none : 0 ≡ a + 0 - m = omega (arith, high) in none)
left_from uses m a (suc n) are low high = elim (cases_lt a m) [
  | inl below ↦
      rw (are a, lt-ltb a m below)
      (left_from uses m (a + 1) n are (omega (arith, below)) (omega (arith, high))
      ∙ ap (range_with_len m) (let e : a + 1 + n - m ≡ a + suc n - m = omega arith in e))
  | inr here ↦
      let same : a ≡ m = omega (arith, low, here) in
      let rest : suc n ≡ a + suc n - m = omega (arith, same) in
      rw (are a, le-ltb a m here)
      (ap (λ tail. a ∷ tail) (none_left uses m (a + 1) n are (omega (arith, here)))
      ∙ ap (λ b. range_with_len b (suc n)) same ∙ ap (range_with_len m) rest)
]

-- the free positions of a subframe, where the used ones are the first
pub free_from :
    (table : Schedule) (t e m : ℕ) → m ≤ table.size → ((p : ℕ) → is_used table t e p ≡ nat_lt p m)
    → free_positions table t e ≡ range_with_len m (table.size - m)
free_from table t e m within are =
    left_from (is_used table t e) m 0 table.size are (omega arith) (omega (arith, within))
    ∙ ap (range_with_len m) (let n : 0 + table.size - m ≡ table.size - m = omega arith in n)

-- where there is no row no position is used
pub none_used : (table : Schedule) (count e p : ℕ) → count ≡ 0 → is_used table count e p ≡ nat_lt p 0
none_used table count e p none =
    any_none (λ d. nat_eq (run_in table d) e && has (positions_of table d) p) count (λ d below. absurd (omega (arith, below, none))) ∙ sym (le-ltb p 0 (omega arith))

module _ (table : Schedule) (count : ℕ) (used : List ℕ) (tells : TellsUsed table count used) (e : ℕ) (low : e < longest_period) where
  -- by the count of a subframe: which positions are free in it
  free_told : free_positions table count e ≡ range_with_len (slice_index used e) (table.size - slice_index used e)
  free_told = free_from table count e (slice_index used e) (tells.within e low) (λ p. tells.first e p low)

  -- how many they are
  pub free_count : length (free_positions table count e) ≡ table.size - slice_index used e
  free_count = ap length free_told ∙ length-range_with_len (slice_index used e) (table.size - slice_index used e)

  -- and which are the first of them
  pub free_first : (k : ℕ) → k ≤ length (free_positions table count e) → take k (free_positions table count e) ≡ range_with_len (slice_index used e) k
  free_first k few =
      ap (take k) free_told
      ∙ take-range (slice_index used e) k (table.size - slice_index used e) (omega (arith, few, free_count))

-- ---- one row more

-- a number below m or m itself is below the next
below_next : (p m : ℕ) → (ltb p m || eqb m p) ≡ ltb p (m + 1)
below_next p m = grind (arith, nat_tests)

-- with the next k numbers there are all below m + k
below_more : (p m k : ℕ) → (ltb p m || has (range_with_len m k) p) ≡ ltb p (m + k)
below_more p m zero = or_false (ltb p m) ∙ ap (ltb p) (let e : m ≡ m + 0 = omega arith in e)
below_more p m (suc k) =
    or_assoc (ltb p m) (eqb m p) (has (range_with_len (m + 1) k) p)
    ∙ ap (λ b. b || has (range_with_len (m + 1) k) p) (below_next p m)
    ∙ below_more p (m + 1) k ∙ ap (ltb p) (let e : m + 1 + k ≡ m + suc k = omega arith in e)

module _ (table : Schedule) (n run poll : ℕ) (at : List ℕ) (runs : length table.run ≡ n) (polls : length table.poll ≡ n) (positions : length table.at ≡ n) where
  -- the rows before it stay
  pub row_before : SameBefore table (with_row table run poll at) n
  row_before = record {
    size = refl;
    period = refl;
    run = λ d low. sym (get_or_append_left table.run (run ∷ []) 0 d (omega (arith, low, runs)));
    poll = λ d low. sym (get_or_append_left table.poll (poll ∷ []) 0 d (omega (arith, low, polls)));
    at = λ d low. sym (get_or_append_left table.at (at ∷ []) [] d (omega (arith, low, positions)));
  }

  -- and it stands behind them
  pub row_run : run_in (with_row table run poll at) n ≡ run
  row_run = get_or_push table.run run 0 n runs

  pub row_poll : polled_in (with_row table run poll at) n ≡ poll
  row_poll = get_or_push table.poll poll 0 n polls

  pub row_at : positions_of (with_row table run poll at) n ≡ at
  row_at = get_or_push table.at at [] n positions

  -- it uses its positions in its subframe
  pub used_more : (e p : ℕ) → is_used (with_row table run poll at) (suc n) e p ≡ (is_used table n e p || (nat_eq run e && has at p))
  used_more e p =
      let new = with_row table run poll at in
      any_more (λ d. nat_eq (run_in new d) e && has (positions_of new d) p) n
      ∙ ap (λ b. b || (nat_eq (run_in new n) e && has (positions_of new n) p)) (sym (used_same table new n row_before e p))
      ∙ ap (λ r. is_used table n e p || (nat_eq r e && has (positions_of new n) p)) row_run
      ∙ ap (λ ps. is_used table n e p || (nat_eq run e && has ps p)) row_at

-- the counts of used positions with one row more, at the first free positions of its subframe
pub tells_more :
    (table : Schedule) (n run poll executors : ℕ) (used : List ℕ) → length table.run ≡ n → length table.poll ≡ n → length table.at ≡ n
    → TellsUsed table n used → run < longest_period → slice_index used run + executors ≤ table.size
    → TellsUsed (with_row table run poll (range_with_len (slice_index used run) executors)) (suc n) (set used run (slice_index used run + executors))
tells_more table n run poll executors used runs polls positions tells low room =
    let m = slice_index used run in
    let at = range_with_len m executors in
    let inside : run < length used = omega (arith, low, tells.each) in record {
      each = length-set used run (m + executors) ∙ tells.each;
      within = λ e there. elim (cases_eq e run) [
        | inl same ↦ rw (same, get_or-set_same used run (m + executors) 0 inside) room
        | inr other ↦ rw (get_or-set_other used run e (m + executors) 0 other) (tells.within e there)
      ];
      first = λ e p there.
          used_more table n run poll at runs polls positions e p ∙ (elim (cases_eq e run) [
            | inl same ↦
                rw (same, get_or-set_same used run (m + executors) 0 inside, tells.first run p low, eq-eqb run run refl) (below_more p m executors)
            | inr other ↦
                rw (get_or-set_other used run e (m + executors) 0 other, ne_eqb run e (λ same. other (sym same)))
                (or_false (is_used table n e p) ∙ tells.first e p there)
          ]);
    }

-- a table that is planned for so many tasks, with the earliest row of the next
pub planned_more :
    (shapes : AllShapes) (w : Wanted) (n : ℕ) (table : Schedule) (e : ℕ) → ArePlannable shapes → n < length shapes.tasks → IsPlanned shapes w n table
    → IsLeastOpen table (executors_of w) (shape_at shapes n).needs n e
    → IsPlanned shapes w (suc n) (with_row table e (e + hearing_delay) (take (executors_of w) (free_positions table n e)))
planned_more shapes w n table e plannable there plan first =
    let at = take (executors_of w) (free_positions table n e) in
    let poll = e + hearing_delay in
    let new = with_row table e poll at in
    let before = row_before table n e poll at plan.runs plan.polls plan.positions in
    let run : run_in new n ≡ e = row_run table n e poll at plan.runs plan.polls plan.positions in
    let last : IsEarliestRow new (executors_of w) (shape_at shapes n).needs n = record {
      run = subst (IsLeastOpen new (executors_of w) (shape_at shapes n).needs n) (sym run)
          (least_same table new n before (executors_of w) (shape_at shapes n).needs e (plannable.earlier n there) first);
      poll = row_poll table n e poll at plan.runs plan.polls plan.positions ∙ ap (λ r. r + hearing_delay) (sym run);
      at = row_at table n e poll at plan.runs plan.polls plan.positions
          ∙ ap (take (executors_of w)) (free_same table new n before e ∙ ap (free_positions new n) (sym run));
    } in record {
      size = plan.size;
      period = plan.period;
      runs = omega (arith, length-append table.run (e ∷ []), plan.runs);
      polls = omega (arith, length-append table.poll (poll ∷ []), plan.polls);
      positions = omega (arith, length-append table.at (at ∷ []), plan.positions);
      none_shed = plan.none_shed;
      rows = λ t low. elim (cases_lt t n) [
        | inl less ↦
            row_same table new t (same_earlier table new (suc t) n (omega (arith, less)) before) (executors_of w) (shape_at shapes t).needs
            (plannable.earlier t (omega (arith, less, there))) (plan.rows t less)
        | inr high ↦
            let end : n ≡ t = omega (arith, low, high) in
            subst (λ k. IsEarliestRow new (executors_of w) (shape_at shapes k).needs k) end last
      ];
    }

-- a draft with one row more is kept
pub kept_more :
    (old new : Draft) (run poll : ℕ) → IsKept old → run + hearing_delay + report_lead ≤ (drafted old).period
    → old.executors ≤ length (free_positions (drafted old) (rows_in old) run)
    → drafted new ≡ with_row (drafted old) run poll (take old.executors (free_positions (drafted old) (rows_in old) run))
    → new.executors ≡ old.executors → new.used ≡ set old.used run (slice_index old.used run + old.executors)
    → IsKept new
kept_more old new run poll kept by_reports room row executors used =
    let table = drafted old in
    let n = rows_in old in
    let k = old.executors in
    let m = slice_index old.used run in
    let low : run < longest_period = omega (arith, by_reports, kept.short) in
    let free = free_count table n old.used kept.used run low in
    let within = kept.used.within run low in
    let first : take k (free_positions table n run) ≡ range_with_len m k = free_first table n old.used kept.used run low k room in
    let at : drafted new ≡ with_row table run poll (range_with_len m k) = row ∙ ap (with_row table run poll) first in
    let more = with_row table run poll (range_with_len m k) in
    let one_more : length more.run ≡ suc n = omega (arith, length-append table.run (run ∷ [])) in
    let told : TellsUsed more (suc n) (set old.used run (m + k)) =
    tells_more table n run poll k old.used (let e : length table.run ≡ n = omega arith in e) kept.polls kept.positions kept.used low (omega (arith, room, free, within)) in
    let size : (drafted new).size ≡ table.size = ap (λ (s : Schedule). s.size) at in
    let period : (drafted new).period ≡ table.period = ap (λ (s : Schedule). s.period) at in
    let runs : rows_in new ≡ suc n = ap (λ (s : Schedule). length s.run) at ∙ one_more in record {
      enough_units = omega (arith, kept.enough_units, size);
      few_units = omega (arith, kept.few_units, size);
      long = omega (arith, kept.long, period);
      short = omega (arith, kept.short, period);
      some = omega (arith, kept.some, executors);
      few = omega (arith, kept.few, executors, size);
      polls = ap (λ (s : Schedule). length s.poll) at ∙ (let e : length more.poll ≡ suc n = omega (arith, length-append table.poll (poll ∷ []), kept.polls) in e) ∙ sym runs;
      positions = ap (λ (s : Schedule). length s.at) at
          ∙ (let e : length more.at ≡ suc n = omega (arith, length-append table.at (range_with_len m k ∷ []), kept.positions) in e) ∙ sym runs;
      used = subst (λ (s : Schedule). TellsUsed s (length s.run) new.used) (sym at)
          (subst (λ (us : List ℕ). TellsUsed more (length more.run) us) (sym used) (subst (λ (c : ℕ). TellsUsed more c (set old.used run (m + k))) (sym one_more) told));
    }
