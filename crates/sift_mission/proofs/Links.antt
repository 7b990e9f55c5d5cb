-- Numbers linked by their times.
use Rattle.std.proofs.Common.{◌≡◌, ◌≢◌, ℕ, ◌+◌, ◌<◌, ◌≤◌, List, length, sym, ap, ◌∙◌, refl, arith}
use Rattle.std.specs.Prelude.{slice_index, slice_set}
use mathlib.Core.Logic.{dite}
use native.Mathlib.Decide.{ℕ_discrete}
use Rattle.std.proofs.lemmas.List.{get_or-set_other, get_or-set_same, length-set}
use Rattle.sift_mission.specs.Timetable.{IsNext}

-- where there is no number, none has the time
pub none_next : (count : ℕ) (times : List ℕ) (time next : ℕ) → next ≡ count → IsNext count times time count next
none_next count times time next is = rw is (record { after = omega arith; within = omega arith; passed = λ i low high. absurd (omega arith); found = λ low. absurd (omega arith) })

module _ (count : ℕ) (times : List ℕ) where
  -- so far: the numbers from one on are linked, and for each time the first of them that has it is known
  pub record AreLinked (next first : List ℕ) (from : ℕ) : Type 0 where
    pub as_many : length next ≡ 90
    pub all_times : length first ≡ 256
    pub links : (k : ℕ) → from ≤ k → k < count → IsNext count times (slice_index times k) (k + 1) (slice_index next k)
    pub firsts : (time : ℕ) → time < 256 → IsNext count times time from (slice_index first time)

module _ (count : ℕ) (times : List ℕ) (i : ℕ) (low : i < count) where
  -- the first from i on that has i's time is i
  here_next : IsNext count times (slice_index times i) i i
  here_next = record { after = omega arith; within = omega arith; passed = λ j up below. absurd (omega arith); found = λ _. refl }

  -- for another time it is the first after i
  there_next : (time next : ℕ) → slice_index times i ≢ time → IsNext count times time (i + 1) next → IsNext count times time i next
  there_next time next differ n = record {
    after = (let after = n.after in omega arith);
    within = n.within;
    passed = λ j up below. dite (ℕ_discrete j i)
        (λ same e. differ (ap (λ k. slice_index times k) (sym same) ∙ e))
        (λ other. n.passed j (omega arith) below);
    found = n.found;
  }

  -- one number more, for each time
  pub first_more : (first : List ℕ) → slice_index times i < length first
      → ((time : ℕ) → time < 256 → IsNext count times time (i + 1) (slice_index first time))
      → (time : ℕ) → time < 256 → IsNext count times time i (slice_index (slice_set first (slice_index times i) i) time)
  first_more first inside firsts time fits = dite (ℕ_discrete time (slice_index times i))
      (λ same. rw (same, get_or-set_same first (slice_index times i) i 0 inside) here_next)
      (λ other. rw (get_or-set_other first (slice_index times i) time i 0 other) (there_next time (slice_index first time) (λ e. other (sym e)) (firsts time fits)))

  -- one number more is linked
  pub link_more : (first next : List ℕ) → i < length next → slice_index times i < 256
      → ((time : ℕ) → time < 256 → IsNext count times time (i + 1) (slice_index first time))
      → ((k : ℕ) → i + 1 ≤ k → k < count → IsNext count times (slice_index times k) (k + 1) (slice_index next k))
      → (k : ℕ) → i ≤ k → k < count → IsNext count times (slice_index times k) (k + 1) (slice_index (slice_set next i (slice_index first (slice_index times i))) k)
  link_more first next inside fits firsts links k up below = dite (ℕ_discrete k i)
      (λ same. rw (same, get_or-set_same next i (slice_index first (slice_index times i)) 0 inside) (firsts (slice_index times i) fits))
      (λ other. rw (get_or-set_other next i k (slice_index first (slice_index times i)) 0 other) (links k (omega arith) below))

  -- all of it
  pub linked_more : (next first : List ℕ) (from t : ℕ) → from ≡ i + 1 → t ≡ slice_index times i → t < 256 → count ≤ 90 → AreLinked count times next first from
      → AreLinked count times (slice_set next i (slice_index first t)) (slice_set first t i) i
  linked_more next first from t at is fits few so_far =
      let many = so_far.as_many in let all = so_far.all_times in
      rw is (record {
        as_many = length-set next i (slice_index first (slice_index times i)) ∙ many;
        all_times = length-set first (slice_index times i) i ∙ all;
        links = link_more first next (omega arith) (omega arith) (rw at at so_far.firsts) (rw at at so_far.links);
        firsts = first_more first (omega arith) (rw at at so_far.firsts);
      })
