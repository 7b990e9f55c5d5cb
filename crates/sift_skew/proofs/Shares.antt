-- Sums over the clocks of a configuration, place by place.
use Rattle.std.proofs.Common.{◌≡◌, ℕ, ◌+◌, ◌*◌, List, [], ◌∷◌, length, map, Bool, true, false, not, nat_eq, ℤ, pos, ◌+ℤ◌, ◌*ℤ◌, Option, inl, inr, arith, ap}
use Rattle.std.specs.Prelude.{◌≤ℤ◌, if◌then◌else◌}
use Rattle.std.proofs.lemmas.Int.{ints}
use Rattle.std.proofs.lemmas.Bool.{cases_Bool}
use Rattle.sift_base.specs.Units.{has, others, faulty_count}
use Rattle.sift_base.specs.laws.Counts.{count-yes, count-no, has-head, has-tail}
use Rattle.sift_clock.specs.Correction.{counted, int_sum, counted_sum}

-- the sum of a number for each unit
abbrev pub total : (ℕ → ℤ) → List ℕ → ℤ
total f us = int_sum (map f us)

-- what unit u with this offset takes the clock of v for: its own offset, and what it reads of v
abbrev pub seen : ℤ → (ℕ → Option ℤ) → ℤ → ℕ → ℕ → ℤ
seen limit read own u v = own +ℤ (if nat_eq v u then pos 0 else counted limit (read v))

-- the sum of what u sees is its own offset for each clock, and the counted sum of its readings
pub total-seen : (limit : ℤ) (read : ℕ → Option ℤ) (own : ℤ) (u : ℕ) (us : List ℕ)
    → total (seen limit read own u) us ≡ pos (length us) *ℤ own +ℤ counted_sum limit (map read (others u us))
total-seen limit read own u [] = omega (arith, ints)
total-seen limit read own u (v ∷ us) =
    let rest = total-seen limit read own u us in
    elim (cases_Bool (nat_eq v u)) [
      | inl t ↦ rw t (omega (arith, ints))
      | inr f ↦ rw f (omega (arith, ints))
    ]

-- two sums whose terms are at most near apart, and at most near + far where a unit doesn't work
pub total-≤ : (works : ℕ → Bool) (near far : ℕ) (f g : ℕ → ℤ) (us : List ℕ)
    → ((u : ℕ) → has us u ≡ true → works u ≡ true → f u ≤ℤ (g u +ℤ pos near))
    → ((u : ℕ) → has us u ≡ true → works u ≡ false → f u ≤ℤ (g u +ℤ pos (near + far)))
    → total f us ≤ℤ (total g us +ℤ pos (length us * near + faulty_count works us * far))
total-≤ works near far f g [] well ill = omega (arith, ints)
total-≤ works near far f g (u ∷ us) well ill =
    let rest = total-≤ works near far f g us (λ v h. well v (has-tail u us v h)) (λ v h. ill v (has-tail u us v h)) in
    elim (cases_Bool (works u)) [
      | inl t ↦
          let here = well u (has-head u us) t in
          rw (count-no (λ v. not (works v)) u us (ap not t)) (omega (arith, ints))
      | inr f ↦
          let here = ill u (has-head u us) f in
          rw (count-yes (λ v. not (works v)) u us (ap not f)) (omega (arith, ints))
    ]
