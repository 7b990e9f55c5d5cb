-- Why the samples are lawful, and not.
use Rattle.std.proofs.Common.{◌≡◌, ◌≢◌, ⊎_elim, ℕ, ◌<◌, ◌≤◌, Some, None, refl, sym, ◌∙◌, arith}
use Rattle.sift_buffer.specs.Ranges.{IsPlace}
use Rattle.sift_buffer.specs.Conduct.{put}
use Rattle.sift_buffer.specs.Core.{AllAllowed}
use Rattle.sift_buffer.specs.Lawful.{IsLastSaid, silent, last}
use Rattle.sift_buffer.specs.Samples.{pair, idle, story, ConditionsTellApart}
use Rattle.sift_buffer.proofs.Puts.{none_some, put_cases}
use Rattle.sift_buffer.proofs.Events.{fresh_lawful, events_keep}

-- a unit that has said nothing has no cell with 7
not_silent : {d : Rattle.sift_buffer.specs.Conduct.Conduct} → ((f : ℕ) → d.said f 0 1 ≡ None) → ¬ IsLastSaid d 1 0 7
not_silent n (silent _ z) = absurd (omega arith)
not_silent n (last f s w at is top) = none_some (sym (n f) ∙ at)

-- a unit of the pair that has seen the other one passes the gate
gate : (seen : ℕ → ℕ) (u other n : ℕ) → ((p : ℕ) → p < 2 → p ≢ u → p ≡ other) → (p : ℕ) → p < 2 → p ≢ u → n ≤ put seen other n p
gate seen u other n only p hp ne = put_cases (λ (z : ℕ). n ≤ z) seen other n p (λ _. omega arith) (λ away. absurd (away (only p hp ne)))

-- the other unit of unit 0
other_of_zero : (p : ℕ) → p < 2 → p ≢ 0 → p ≡ 1
other_of_zero p hp ne = omega arith

-- the other unit of unit 1
other_of_one : (p : ℕ) → p < 2 → p ≢ 1 → p ≡ 0
other_of_one p hp ne = omega arith

-- the cell of unit 0 for unit 1, in frame 0
to_one : IsPlace pair 0 1 0 0
to_one = record { cell = record { unit = omega arith; other = omega arith; slot = omega arith }; frame = omega arith }

-- and to unit 1 from unit 0
from_zero : (f : ℕ) → f < 2 → IsPlace pair 1 0 0 f
from_zero f hf = record { cell = record { unit = omega arith; other = omega arith; slot = omega arith }; frame = hf }

-- each event of the story is allowed when it comes
allowed : AllAllowed pair idle story
allowed = (
  (omega arith, (record { flies = refl; place = to_one; stamp = refl; frame = refl; fresh = λ f s w at. none_some at }, omega arith)),
  (
    (omega arith, (record { flies = refl; below = omega arith }, λ p hp ne. omega arith)),
    (
      (omega arith, (record { flies = refl; below = omega arith }, λ p hp ne. omega arith)),
      (
        (omega arith, (omega arith, omega arith)),
        (
          (omega arith, (omega arith, omega arith)),
          (
            (omega arith, (record { flies = refl; below = omega arith }, gate _ 0 1 1 other_of_zero)),
            (
              (omega arith, (record { flies = refl; below = omega arith }, gate _ 1 0 1 other_of_one)),
              (
                (omega arith, record { flies = refl; place = from_zero 0 (omega arith); stamp = (omega arith, omega arith); frame = refl }),
                (
                  (omega arith, (omega arith, omega arith)),
                  (
                    (omega arith, (refl, λ _. gate _ 0 1 2 other_of_zero)),
                    (
                      (omega arith, record { turned = omega arith; cell = to_one.cell }),
                      (
                        (omega arith, record { flies = refl; place = from_zero 1 (omega arith); stamp = (omega arith, omega arith); frame = refl }),
                        tt,
                      ),
                    ),
                  ),
                ),
              ),
            ),
          ),
        ),
      ),
    ),
  ),
)

-- the law of the samples
pub tell_apart : ConditionsTellApart
tell_apart = record {
  allowed = allowed;
  lawful = events_keep pair idle story (fresh_lawful pair) allowed;
  cells = λ law. not_silent (λ f. refl) (law 0 1 0 (omega arith) (omega arith) (omega arith) refl);
  stamps = λ law. let s = (law 0 (omega arith)).reached 0 0 1 2 (Some 7) refl in let l : 2 ≤ 1 = s.0 in absurd (omega arith);
  sights = λ law. let s : 1 ≤ 0 = law 0 1 (omega arith) (omega arith) (omega arith) in absurd (omega arith);
  pace = λ law. let n = law 0 1 (omega arith) (omega arith) (omega arith) refl in let s : 2 ≤ 1 = n.sight in absurd (omega arith);
  heard = λ law. let h = law 1 0 0 0 1 0 (Some 7) (omega arith) (omega arith) (omega arith) (omega arith) refl (omega arith) in
      ⊎_elim (λ n. none_some (sym n)) (λ t. none_some t.1) h.source;
  turned = λ law. ⊎_elim (λ i. not_silent (λ f. refl) i) (λ among. let low = among.1 in absurd (omega arith)) (law.cells 0 1 0 (omega arith) (omega arith) (omega arith) (omega arith));
}
