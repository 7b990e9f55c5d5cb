-- A plan meets all rules of schedule tables.
use Rattle.std.proofs.Common.{◌≡◌, ℕ, zero, suc, ◌<◌, List, [], ◌∷◌, length, take, Bool, true, false, not, nat_eq, ◌&&◌, inl, inr, ap, sym, subst, ◌∙◌, refl, eqb, eq-eqb, arith}
use Rattle.std.proofs.lemmas.Bool.{and_from, cases_Bool, false≢true, ne_eqb, or_parts}
use Rattle.std.proofs.lemmas.List.{length-take-le}
use Rattle.std.proofs.lemmas.List.Elements.{All-filter, All-take}
use Rattle.std.specs.List.{All, filter, range_with_len}
use Rattle.sift_base.specs.Requirement.{AreMet}
use Rattle.sift_base.specs.Shapes.{AllShapes}
use Rattle.sift_base.specs.Units.{has, IsAscending}
use Rattle.sift_base.specs.laws.Counts.{IsBelowAll}
use Rattle.sift_base.specs.laws.Ranges.{range-ascends, range-below}
use Rattle.sift_base.specs.laws.Sets.{passing_ascend}
use Rattle.sift_table.specs.Rules.{AreApart, row_rules, rules_where}
use Rattle.sift_table.specs.Schedule.{Schedule, positions_of, run_in}
use Rattle.sift_planner.specs.Earliest.{free_positions, is_used}
use Rattle.sift_planner.specs.Laws.{PlansAreGood}
use Rattle.sift_planner.specs.Plans.{IsPlan, IsWithinLimits, Wanted, executors_of}
use Rattle.sift_planner.proofs.Ranges.{any_one}

-- ---- lists that ascend

-- what is left out leaves the rest in order
below_filter : (u : ℕ) (keeps : ℕ → Bool) (vs : List ℕ) → IsBelowAll u vs → IsBelowAll u (filter keeps vs)
below_filter u keeps [] below = tt
below_filter u keeps (v ∷ vs) below = elim (cases_Bool (keeps v)) [
  | inl kept ↦ rw kept (below.0, below_filter u keeps vs below.1)
  | inr left ↦ rw left (below_filter u keeps vs below.1)
]

below_take : (u k : ℕ) (vs : List ℕ) → IsBelowAll u vs → IsBelowAll u (take k vs)
below_take u zero vs below = tt
below_take u (suc k) [] below = tt
below_take u (suc k) (v ∷ vs) below = (below.0, below_take u k vs below.1)

take_ascends : (k : ℕ) (vs : List ℕ) → IsAscending vs → IsAscending (take k vs)
take_ascends zero vs up = tt
take_ascends (suc k) [] up = tt
take_ascends (suc k) (v ∷ vs) up = (below_take v k vs up.0, take_ascends k vs up.1)

-- ---- what a list doesn't have

-- what doesn't pass is left out
filter_lacks : (keeps : ℕ → Bool) (vs : List ℕ) (p : ℕ) → keeps p ≡ false → has (filter keeps vs) p ≡ false
filter_lacks keeps [] p fails = refl
filter_lacks keeps (v ∷ vs) p fails = elim (cases_Bool (keeps v)) [
  | inl kept ↦
      let other : eqb v p ≡ false = ne_eqb v p (λ same. false≢true (sym fails ∙ ap keeps (sym same) ∙ kept)) in
      rw (kept, other) (filter_lacks keeps vs p fails)
  | inr left ↦ rw left (filter_lacks keeps vs p fails)
]

-- the first entries have no more than all
take_lacks : (k : ℕ) (vs : List ℕ) (p : ℕ) → has vs p ≡ false → has (take k vs) p ≡ false
take_lacks zero vs p lacks = refl
take_lacks (suc k) [] p lacks = refl
take_lacks (suc k) (v ∷ vs) p lacks =
    let parts = or_parts (eqb v p) (has vs p) lacks in
    rw parts.0 (take_lacks k vs p parts.1)

-- ---- plans

module _ (shapes : AllShapes) (w : Wanted) (table : Schedule) (limits : IsWithinLimits w) (plan : IsPlan shapes w table) where
  -- no earlier row in a row's subframe has one of its positions
  apart : (t earlier : ℕ) → t < length shapes.tasks → earlier < t → run_in table earlier ≡ run_in table t → AreApart (positions_of table earlier) (positions_of table t)
  apart t earlier low before same p there =
      let e = run_in table t in
      let used : is_used table t e p ≡ true =
      any_one (λ d. nat_eq (run_in table d) e && has (positions_of table d) p) t earlier before
      (and_from (nat_eq (run_in table earlier) e) (has (positions_of table earlier) p) (eq-eqb (run_in table earlier) e same) there) in
      let lacks = filter_lacks (λ q. not (is_used table t e q)) (range_with_len 0 table.size) p (ap not used) in
      ap (λ ps. has ps p) (plan.rows t low).at ∙ take_lacks (executors_of w) (free_positions table t e) p lacks

  -- each row meets the rules of a task that isn't shed
  run_good : (t : ℕ) → t < length shapes.tasks → AreMet (rules_where false table shapes t)
  run_good t low =
      let row = plan.rows t low in
      let opened = row.run.open_here in
      let free = free_positions table t (run_in table t) in
      let keeps = λ (p : ℕ). not (is_used table t (run_in table t) p) in
      let at : positions_of table t ≡ take (executors_of w) free = row.at in
      let count : length (positions_of table t) ≡ executors_of w = ap length at ∙ length-take-le (executors_of w) free opened.room in
      let inside : All (λ p. p < table.size) (take (executors_of w) free) =
      All-take (λ p. p < table.size) (executors_of w) free (All-filter keeps (λ p. p < table.size) (range_with_len 0 table.size) (range-below table.size)) in
      let ascend : IsAscending (take (executors_of w) free) = take_ascends (executors_of w) free (passing_ascend keeps (range_with_len 0 table.size) (range-ascends 0 table.size)) in
      let poll = row.poll in (
        opened.in_time.agreed,
        (
          omega (arith, opened.in_time.by_reports, poll),
          (
            omega (arith, poll),
            (
              omega (arith, count, limits.enough_copies, limits.enough_units),
              (
                subst (λ (ps : List ℕ). All (λ p. p < table.size) ps) (sym at) inside,
                (
                  subst (λ (ps : List ℕ). IsAscending ps) (sym at) ascend,
                  (
                    (λ k d inside kept. opened.needs_polled k d inside),
                    ((λ earlier before kept same. apart t earlier low before same), tt),
                  ),
                ),
              ),
            ),
          ),
        ),
      )

  -- and no task is shed
  row_good : (t : ℕ) → t < length shapes.tasks → AreMet (row_rules table shapes t)
  row_good t low =
      subst (λ (shed : List ℕ). AreMet (rules_where (has shed t) table shapes t)) (sym plan.none_shed) (run_good t low)

-- a plan within the limits meets all rules of schedule tables
pub plans_are_good : PlansAreGood
plans_are_good shapes w table limits plan = record {
  whole = ((plan.runs, plan.polls, plan.positions), (rw plan.none_shed (tt, λ k d low. absurd (omega arith)), tt));
  rows = row_good shapes w table limits plan;
}
