-- A correction keeps the skew of those who read the working clocks well.
use Rattle.std.proofs.Common.{◌≡◌, ℕ, ◌+◌, ◌*◌, ◌<◌, ◌≤◌, List, length, map, Bool, true, nat_eq, ℤ, pos, ◌+ℤ◌, ◌*ℤ◌, ◌<ℤ◌, Option, inl, inr, arith, ap, ◌∙◌}
use Rattle.std.specs.Prelude.{◌≤ℤ◌}
use Rattle.std.proofs.lemmas.Int.{ints}
use Rattle.std.proofs.lemmas.Bool.{cases_Bool, eqb-true, eqb-false}
use Rattle.sift_base.specs.Units.{has, others, faulty_count}
use Rattle.sift_base.specs.laws.Counts.{length-has}
use Rattle.sift_clock.specs.Distance.{IsWithin}
use Rattle.sift_clock.specs.Correction.{counted, counted_sum, correction_of}
use Rattle.sift_clock.specs.laws.Floors.{floor_is}
use Rattle.sift_skew.specs.Keeping.{AreReaders, AreTogether, DriftsAddTwice, corrected_offsets, next_offsets}
use Rattle.sift_skew.proofs.lemmas.Changes.{counted_within, counted_is}
use Rattle.sift_skew.proofs.Products.{scaled-add, scaled-cancel}
use Rattle.sift_skew.proofs.Shares.{total, seen, total-seen, total-≤}

-- what u sees of a working clock is within the error of that clock
seen_near : (skew error : ℕ) (us : List ℕ) (reads works : ℕ → Bool) (clock : ℕ → ℤ) (read : ℕ → ℕ → Option ℤ)
    → AreReaders (pos skew) (pos error) us reads works clock read
    → (u : ℕ) → has us u ≡ true → reads u ≡ true → (v : ℕ) → has us v ≡ true → works v ≡ true
    → IsWithin (pos error) (seen (pos (skew + error)) (read u) (clock u) u v) (clock v)
seen_near skew error us reads works clock read readers u u_in u_reads v v_in v_works =
    elim (cases_Bool (nat_eq v u)) [
      | inl t ↦ let same : clock v ≡ clock u = ap clock (eqb-true v u t) in rw t (omega (arith, ints), omega (arith, ints))
      | inr f ↦
          let reading = readers.readings u u_in u_reads v v_in v_works (eqb-false v u f) in
          let v_reads = readers.wider v v_works in
          let ahead = readers.together v u v_in v_reads u_in u_reads in
          let behind = readers.together u v u_in u_reads v_in v_reads in
          let near : IsWithin (pos (skew + error)) reading.0 (pos 0) =
          (omega (arith, ints, reading.2), omega (arith, ints, reading.2)) in
          let counts : counted (pos (skew + error)) (read u v) ≡ reading.0 =
          ap (counted (pos (skew + error))) reading.1 ∙ counted_is (skew + error) reading.0 near in
          rw (f, counts) (omega (arith, ints, reading.2), omega (arith, ints, reading.2))
    ]

-- what u sees of any clock is within the limit of its own
seen_own : (limit : ℕ) (own : ℤ) (u : ℕ) (read : ℕ → Option ℤ) (v : ℕ) → IsWithin (pos limit) (seen (pos limit) read own u v) own
seen_own limit own u read v =
    let near = counted_within limit (read v) in
    elim (cases_Bool (nat_eq v u)) [
      | inl t ↦ rw t (omega (arith, ints), omega (arith, ints))
      | inr f ↦ rw f (omega (arith, ints), omega (arith, ints))
    ]

-- two corrected offsets, before the drift, by the sums of what is seen
corrected : (n rest gap : ℕ) (a b sum_a sum_b seen_a seen_b : ℤ) → 0 < n
    → seen_a ≡ pos n *ℤ a +ℤ sum_a → seen_b ≡ pos n *ℤ b +ℤ sum_b → seen_a ≤ℤ (seen_b +ℤ pos gap) → gap ≤ n * rest
    → (c d : ℤ) → (pos n *ℤ c) ≤ℤ sum_a → sum_b <ℤ (pos n *ℤ d +ℤ pos n)
    → (a +ℤ c) ≤ℤ (b +ℤ d +ℤ pos rest)
corrected n rest gap a b sum_a sum_b seen_a seen_b some is_a is_b apart_by most c d floor_a floor_b =
    let split_a = scaled-add n a c in
    let split_b = scaled-add n b d in
    let split_rest = scaled-add n (b +ℤ d) (pos rest) in
    scaled-cancel n (a +ℤ c) (b +ℤ d +ℤ pos rest) (omega (arith, ints))

-- the correction, where the errors and the faulty clocks' shares leave room
pub corrected_by_room : (skew error rest : ℕ) (us : List ℕ) (reads works : ℕ → Bool) (clock : ℕ → ℤ) (read : ℕ → ℕ → Option ℤ)
    → AreReaders (pos skew) (pos error) us reads works clock read
    → length us * (2 * error) + faulty_count works us * (3 * skew) ≤ length us * rest
    → AreTogether (pos rest) us reads (corrected_offsets (pos (skew + error)) us clock read)
corrected_by_room skew error rest us reads works clock read readers fits p q p_in p_reads q_in q_reads =
    let limit : ℤ = pos (skew + error) in
    let some = length-has p us p_in in
    let sums = total-≤ works (2 * error) (3 * skew) (seen limit (read p) (clock p) p) (seen limit (read q) (clock q) q) us
    (λ v v_in v_works.
    let by_p = seen_near skew error us reads works clock read readers p p_in p_reads v v_in v_works in
    let by_q = seen_near skew error us reads works clock read readers q q_in q_reads v v_in v_works in
    omega (arith, ints, by_p, by_q))
    (λ v v_in v_faulty.
    let by_p = seen_own (skew + error) (clock p) p (read p) v in
    let by_q = seen_own (skew + error) (clock q) q (read q) v in
    omega (arith, ints, by_p, by_q, readers.together p q p_in p_reads q_in q_reads)) in
    let readings_p = map (read p) (others p us) in
    let readings_q = map (read q) (others q us) in
    let floor_p = floor_is (counted_sum limit readings_p) (length us) some in
    let floor_q = floor_is (counted_sum limit readings_q) (length us) some in
    let close = corrected (length us) rest (length us * (2 * error) + faulty_count works us * (3 * skew))
    (clock p) (clock q) (counted_sum limit readings_p) (counted_sum limit readings_q)
    (total (seen limit (read p) (clock p) p) us) (total (seen limit (read q) (clock q) q) us) some
    (total-seen limit (read p) (clock p) p us) (total-seen limit (read q) (clock q) q us) sums fits
    (correction_of limit (length us) readings_p) (correction_of limit (length us) readings_q) floor_p.0 floor_q.1 in
    omega (arith, ints, close)

-- two drifts are added to it
pub drifts_add_twice : DriftsAddTwice
drifts_add_twice rate far limit us works clock drift read drifts together p q p_in p_works q_in q_works =
    let close = together p q p_in p_works q_in q_works in
    let drift_p = drifts p p_in p_works in
    let drift_q = drifts q q_in q_works in
    omega (arith, ints, close, drift_p, drift_q)

-- so the skew is kept, where they have room
pub step_by_room : (skew error rate rest : ℕ) (us : List ℕ) (reads works : ℕ → Bool) (clock drift : ℕ → ℤ) (read : ℕ → ℕ → Option ℤ)
    → AreReaders (pos skew) (pos error) us reads works clock read
    → ((u : ℕ) → has us u ≡ true → reads u ≡ true → IsWithin (pos rate) (drift u) (pos 0)) → rest + 2 * rate ≡ skew
    → length us * (2 * error) + faulty_count works us * (3 * skew) ≤ length us * rest
    → AreTogether (pos skew) us reads (next_offsets (pos (skew + error)) us clock drift read)
step_by_room skew error rate rest us reads works clock drift read readers drifts tight fits p q p_in p_reads q_in q_reads =
    let corrected_here = corrected_by_room skew error rest us reads works clock read readers fits in
    let close = drifts_add_twice (pos rate) (pos rest) (pos (skew + error)) us reads clock drift read drifts corrected_here p q p_in p_reads q_in q_reads in
    omega (arith, ints, close, tight)
