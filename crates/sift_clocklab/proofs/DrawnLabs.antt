-- A drawn laboratory can be run.
use Rattle.std.proofs.Common.{◌≡◌, ℕ, ◌+◌, ◌-◌, ◌*◌, ◌<◌, inl, inr, List, map, get_or, nat_eq, ℤ, pos, negsuc, ◌+ℤ◌, refl, subst, arith}
use Rattle.std.specs.Prelude.{◌≤ℤ◌, unsigned_abs}
use Rattle.std.specs.List.{range_with_len}
use Rattle.std.proofs.lemmas.Int.{ints}
use Rattle.std.proofs.lemmas.Bool.{cases_Bool}
use Rattle.std.proofs.lemmas.List.FromFn.{get_or-map-range_with_len, length-map-range_with_len}
use Rattle.sift_base.specs.Draw.{after, drawn}
use Rattle.sift_clock.specs.Distance.{IsWithin}
use Rattle.sift_clocklab.specs.Laboratory.{Laboratory, working_of}
use Rattle.sift_clocklab.specs.Conditions.{AreInRange, AreOfClocks, IsAdmitted, IsReady, IsRefused, tick_limit}
use Rattle.sift_clocklab.specs.Draws.{drawn_lab, drift_drawn, noise_drawn, noises_drawn, others_before, row_place, spread, start_drawn}

-- ---- sizes

-- a number of at least 0 is its own size
pub abs_is : (z : ℤ) → pos 0 ≤ℤ z → pos (unsigned_abs z) ≡ z
abs_is (pos n) some = refl
abs_is (negsuc n) some = absurd (omega (arith, ints))

-- the size of a sum of two of them is the sum of their sizes
pub abs_sum : (y z : ℤ) → pos 0 ≤ℤ y → pos 0 ≤ℤ z → unsigned_abs y + unsigned_abs z ≡ unsigned_abs (y +ℤ z)
abs_sum (pos m) (pos n) some more = refl
abs_sum (negsuc m) z some more = absurd (omega (arith, ints))
abs_sum (pos m) (negsuc n) some more = absurd (omega (arith, ints))

-- what is within the size of a number of at least 0 is within it
within_size : (far z : ℤ) → pos 0 ≤ℤ far → IsWithin (pos (unsigned_abs far)) z (pos 0) → IsWithin far z (pos 0)
within_size far z some near = subst (λ (f : ℤ). IsWithin f z (pos 0)) (abs_is far some) near

-- ---- draws

-- what is drawn is below what it is drawn below
drawn_below : (x m : ℕ) → 0 < m → drawn x m < m
drawn_below x m some = omega arith

-- what is drawn from -most to most is there
spread_within : (most x : ℕ) → IsWithin (pos most) (spread most x) (pos 0)
spread_within most x =
    let below = drawn_below x (2 * most + 1) (omega arith) in
    (omega (arith, ints), omega (arith, ints))

-- a start is from 0 to the skew
start_within : (skew x q : ℕ) → (pos 0 ≤ℤ start_drawn skew x q) × (start_drawn skew x q ≤ℤ pos skew)
start_within skew x q =
    let below = drawn_below (after x (2 * q + 1)) (skew + 1) (omega arith) in
    (omega (arith, ints), omega (arith, ints))

-- a clock misreads any other by no more than the error, and itself not at all
noise_within : (error x q p : ℕ) → IsWithin (pos error) (noise_drawn error x q p) (pos 0)
noise_within error x q p =
    elim (cases_Bool (nat_eq p q)) [
      | inl t ↦ rw t (omega (arith, ints), omega (arith, ints))
      | inr f ↦ rw f (spread_within error (after x (others_before q p + 1)))
    ]

-- ---- laboratories

-- numbers by clocks, each near enough to 0, are numbers of the clocks
of_clocks : (lab : Laboratory) (far : ℤ) (f : ℕ → ℤ) → ((q : ℕ) → IsWithin far (f q) (pos 0))
    → AreOfClocks lab far (map f (range_with_len 0 (working_of lab)))
of_clocks lab far f near = record {
  each = length-map-range_with_len f 0 (working_of lab);
  near = λ q d below.
      let low : q < working_of lab = omega (arith, below, length-map-range_with_len f 0 (working_of lab)) in
      rw (get_or-map-range_with_len f 0 (working_of lab) q q d low (omega arith)) (near q);
}

-- the starts are together
starts_together : (lab : Laboratory) (skew x p q : ℕ) → p < working_of lab → q < working_of lab →
    get_or (map (start_drawn skew x) (range_with_len 0 (working_of lab))) p (pos 0)
    ≤ℤ (get_or (map (start_drawn skew x) (range_with_len 0 (working_of lab))) q (pos 0) +ℤ pos skew)
starts_together lab skew x p q p_low q_low =
    rw (
      get_or-map-range_with_len (start_drawn skew x) 0 (working_of lab) p p (pos 0) p_low (omega arith),
      get_or-map-range_with_len (start_drawn skew x) 0 (working_of lab) q q (pos 0) q_low (omega arith),
    ) (omega (arith, ints, start_within skew x p, start_within skew x q))

-- the laboratory that is drawn from a number can be run, where its sizes are in range and admitted
pub drawn_ready : (n m : ℕ) (skew error rate : ℤ) (rounds number : ℕ) → AreInRange n m skew error rate rounds
    → IsAdmitted n m skew error rate
    → IsReady (drawn_lab n m skew error rate rounds number)
drawn_ready n m skew error rate rounds number sizes admitted =
    let lab = drawn_lab n m skew error rate rounds number in
    let far = unsigned_abs skew in
    let rows : ℕ → List ℤ = λ q. noises_drawn (unsigned_abs error) (n - m) (row_place (n - m) number q) q in
    record {
      admitted = admitted;
      in_range = sizes;
      start = of_clocks lab tick_limit (start_drawn far number) (λ q.
          let near = start_within far number q in
          let size = abs_is skew sizes.small_skew.0 in
          (omega (arith, ints, near, size, sizes.small_skew), omega (arith, ints, near, size, sizes.small_skew)));
      together = λ p q p_low q_low.
          omega (arith, ints, starts_together lab far number p q p_low q_low, abs_is skew sizes.small_skew.0);
      drift = of_clocks lab rate (drift_drawn (unsigned_abs rate) number) (λ q.
          within_size rate (drift_drawn (unsigned_abs rate) number q) sizes.small_rate.0
          (spread_within (unsigned_abs rate) (after number (2 * q + 2))));
      noise_of_each = length-map-range_with_len rows 0 (n - m);
      noise = λ q d below.
          let low : q < n - m = omega (arith, below, length-map-range_with_len rows 0 (n - m)) in
          rw (get_or-map-range_with_len rows 0 (n - m) q q d low (omega arith))
          (of_clocks lab error (noise_drawn (unsigned_abs error) (row_place (n - m) number q) q) (λ p.
          within_size error (noise_drawn (unsigned_abs error) (row_place (n - m) number q) q p) sizes.small_error.0
          (noise_within (unsigned_abs error) (row_place (n - m) number q) q p)));
    }

-- what is admitted isn't refused
pub not_both : (n m : ℕ) (skew error rate : ℤ) → IsAdmitted n m skew error rate → IsRefused n m skew error rate → ⊥
not_both n m skew error rate admitted (inl few) = let enough = admitted.enough in omega arith
not_both n m skew error rate admitted (inr short) = let room = admitted.room in omega (arith, ints)

-- what is admitted as it is held is admitted as it is given
pub admitted_as_given : (n m : ℕ) (a b c skew error rate : ℤ) → a ≡ skew → b ≡ error → c ≡ rate → IsAdmitted n m a b c
    → IsAdmitted n m skew error rate
admitted_as_given n m a b c skew error rate a_is b_is c_is admitted =
    subst (λ (s : ℤ). IsAdmitted n m s error rate) a_is
    (subst (λ (e : ℤ). IsAdmitted n m a e rate) b_is (subst (λ (r : ℤ). IsAdmitted n m a b r) c_is admitted))
