-- What is open for a task is told by the rows before it alone.
use Rattle.std.proofs.Common.{◌≡◌, ℕ, suc, ◌+◌, ◌<◌, ◌≤◌, List, length, take, get_or, ap, sym, ◌∙◌, subst, not, nat_eq, ◌&&◌, inl, inr, arith}
use Rattle.std.proofs.lemmas.Bool.{cases_order}
use Rattle.std.proofs.lemmas.List.Elements.{filter_agree}
use Rattle.std.specs.List.{All, filter, range_with_len}
use Rattle.sift_base.specs.Units.{has}
use Rattle.sift_base.specs.laws.Ranges.{any-same}
use Rattle.sift_table.specs.Schedule.{Schedule, hearing_delay, polled_in, positions_of, run_in}
use Rattle.sift_planner.specs.Earliest.{IsEarliestRow, IsLeastOpen, IsOpen, free_positions, is_used}

-- two tables for the same configurations and frames have the same rows before row t
pub record SameBefore (a b : Schedule) (t : ℕ) : Type 0 where
  pub size : a.size ≡ b.size
  pub period : a.period ≡ b.period
  pub run : (d : ℕ) → d < t → run_in a d ≡ run_in b d
  pub poll : (d : ℕ) → d < t → polled_in a d ≡ polled_in b d
  pub at : (d : ℕ) → d < t → positions_of a d ≡ positions_of b d

-- in either order
pub same_back : (a b : Schedule) (t : ℕ) → SameBefore a b t → SameBefore b a t
same_back a b t same = record {
  size = sym same.size;
  period = sym same.period;
  run = λ d low. sym (same.run d low);
  poll = λ d low. sym (same.poll d low);
  at = λ d low. sym (same.at d low);
}

-- and before an earlier row
pub same_earlier : (a b : Schedule) (t n : ℕ) → t ≤ n → SameBefore a b n → SameBefore a b t
same_earlier a b t n below same = record {
  size = same.size;
  period = same.period;
  run = λ d low. same.run d (omega (arith, low, below));
  poll = λ d low. same.poll d (omega (arith, low, below));
  at = λ d low. same.at d (omega (arith, low, below));
}

module _ (a b : Schedule) (t : ℕ) (same : SameBefore a b t) where
  -- the same positions are used
  pub used_same : (e p : ℕ) → is_used a t e p ≡ is_used b t e p
  used_same e p =
      any-same t (λ d. nat_eq (run_in a d) e && has (positions_of a d) p) (λ d. nat_eq (run_in b d) e && has (positions_of b d) p)
      (λ d low. ap (λ r. nat_eq r e && has (positions_of a d) p) (same.run d low) ∙ ap (λ ps. nat_eq (run_in b d) e && has ps p) (same.at d low))

  -- and the same are free
  pub free_same : (e : ℕ) → free_positions a t e ≡ free_positions b t e
  free_same e =
      filter_agree (λ p. not (is_used a t e p)) (λ p. not (is_used b t e p)) (λ p. ap not (used_same e p)) (range_with_len 0 a.size)
      ∙ ap (λ n. filter (λ p. not (is_used b t e p)) (range_with_len 0 n)) same.size

  -- so what is open in the one is open in the other
  pub open_same : (executors : ℕ) (needs : List ℕ) (e : ℕ) → All (λ needed. needed < t) needs → IsOpen a executors needs t e → IsOpen b executors needs t e
  open_same executors needs e earlier opened = record {
    in_time = record { agreed = opened.in_time.agreed; by_reports = omega (arith, opened.in_time.by_reports, same.period) };
    needs_polled = λ i d low.
        omega (arith, opened.needs_polled i d low, same.poll (get_or needs i d) (earlier i d low));
    room = subst (λ (ps : List ℕ). executors ≤ length ps) (free_same e) opened.room;
  }

-- and the first that is open in the one is it in the other
pub least_same :
    (a b : Schedule) (t : ℕ) → SameBefore a b t → (executors : ℕ) (needs : List ℕ) (e : ℕ) → All (λ needed. needed < t) needs
    → IsLeastOpen a executors needs t e → IsLeastOpen b executors needs t e
least_same a b t same executors needs e earlier first = record {
  open_here = open_same a b t same executors needs e earlier first.open_here;
  least = λ before low opened. first.least before low (open_same b a t (same_back a b t same) executors needs before earlier opened);
}

-- there is one first
pub one_least :
    (table : Schedule) (executors : ℕ) (needs : List ℕ) (t e other : ℕ) → IsLeastOpen table executors needs t e → IsLeastOpen table executors needs t other
    → e ≡ other
one_least table executors needs t e other first again = elim (cases_order e other) [
  | inl equal ↦ equal
  | inr (inl before) ↦ absurd (again.least e before first.open_here)
  | inr (inr after) ↦ absurd (first.least other after again.open_here)
]

-- a row is the earliest in each table that has the same rows up to it
pub row_same :
    (a b : Schedule) (t : ℕ) → SameBefore a b (suc t) → (executors : ℕ) (needs : List ℕ) → All (λ needed. needed < t) needs
    → IsEarliestRow a executors needs t → IsEarliestRow b executors needs t
row_same a b t same executors needs earlier row =
    let before : SameBefore a b t = same_earlier a b t (suc t) (omega arith) same in
    let here : t < suc t = omega arith in
    let run : run_in a t ≡ run_in b t = same.run t here in record {
      run = subst (IsLeastOpen b executors needs t) run (least_same a b t before executors needs (run_in a t) earlier row.run);
      poll = sym (same.poll t here) ∙ row.poll ∙ ap (λ r. r + hearing_delay) run;
      at = sym (same.at t here) ∙ row.at ∙ ap (take executors) (free_same a b t before (run_in a t) ∙ ap (free_positions b t) run);
    }

-- tables with the same rows before an earliest row have the same row there
pub row_more :
    (a b : Schedule) (t : ℕ) → SameBefore a b t → (executors : ℕ) (needs : List ℕ) → All (λ needed. needed < t) needs
    → IsEarliestRow a executors needs t → IsEarliestRow b executors needs t
    → (run_in a t ≡ run_in b t) × (polled_in a t ≡ polled_in b t) × (positions_of a t ≡ positions_of b t)
row_more a b t same executors needs earlier one other =
    let run : run_in a t ≡ run_in b t =
    one_least b executors needs t (run_in a t) (run_in b t) (least_same a b t same executors needs (run_in a t) earlier one.run) other.run in (
      run,
      one.poll ∙ ap (λ r. r + hearing_delay) run ∙ sym other.poll,
      one.at ∙ ap (take executors) (free_same a b t same (run_in a t) ∙ ap (free_positions b t) run) ∙ sym other.at,
    )
