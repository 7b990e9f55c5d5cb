-- The limits under which a correction keeps the skew.
use Rattle.std.proofs.Common.{◌≡◌, ℕ, zero, suc, ◌+◌, ◌-◌, ◌*◌, ◌<◌, ◌≤◌, List, length, Bool, nat_eq, ℤ, pos, negsuc, ◌+ℤ◌, ◌-ℤ◌, ◌*ℤ◌, Option, ◌⊎◌, inl, inr, arith, ap, refl}
use Rattle.std.specs.Prelude.{◌≤ℤ◌}
use Rattle.std.proofs.lemmas.Int.{ints}
use Rattle.std.proofs.lemmas.Bool.{cases_Bool, eqb-true, eqb-false}
use Rattle.std.proofs.Math.Nat.{le_of_mul-le-mul_left, mul-le-mul_left, mul-le-mul_right}
use Rattle.sift_base.specs.Units.{faulty_count, HasMargin}
use Rattle.sift_base.specs.laws.Counts.{both_counts, length-has}
use Rattle.sift_skew.specs.Keeping.{AreReaders, AreTogether, AreWithin, next_offsets, ReadersAreKeptWithMargin, SkewIsKept, SkewIsKeptWithoutFaults, SkewIsKeptWithMargin}
use Rattle.sift_skew.proofs.Products.{room}
use Rattle.sift_skew.proofs.Steps.{step_by_room}

-- the working clocks, within their limits, read one another well
own_readers : (skew error rate : ℤ) (us : List ℕ) (works : ℕ → Bool) (clock drift : ℕ → ℤ) (read : ℕ → ℕ → Option ℤ)
    → AreWithin skew error rate us works clock drift read → AreReaders skew error us works works clock read
own_readers skew error rate us works clock drift read within = record { wider = λ u t. t; together = within.together; readings = within.readings }

-- two working clocks have no negative skew, reading error or drift between them, unless they are one
kept_from : (P : ℤ → ℤ → ℤ → Type 0) (us : List ℕ) (works : ℕ → Bool) (clock drift : ℕ → ℤ) (read : ℕ → ℕ → Option ℤ)
    → ((s e r : ℕ) → P (pos s) (pos e) (pos r) → AreWithin (pos s) (pos e) (pos r) us works clock drift read
    → AreTogether (pos s) us works (next_offsets (pos (s + e)) us clock drift read))
    → (skew error rate : ℤ) → P skew error rate → AreWithin skew error rate us works clock drift read
    → AreTogether skew us works (next_offsets (skew +ℤ error) us clock drift read)
kept_from P us works clock drift read natural (pos s) (pos e) (pos r) premise within p q p_in p_works q_in q_works =
    natural s e r premise within p q p_in p_works q_in q_works
kept_from P us works clock drift read natural (negsuc s) e r premise within p q p_in p_works q_in q_works =
    absurd (omega (arith, ints, within.together p p p_in p_works p_in p_works))
kept_from P us works clock drift read natural (pos s) (pos e) (negsuc r) premise within p q p_in p_works q_in q_works =
    absurd (omega (arith, ints, within.drifts p p_in p_works))
kept_from P us works clock drift read natural (pos s) (negsuc e) r premise within p q p_in p_works q_in q_works =
    elim (cases_Bool (nat_eq q p)) [
      | inl t ↦
          let same = ap (next_offsets (pos s +ℤ negsuc e) us clock drift read) (eqb-true q p t) in
          omega (arith, ints, same)
      | inr f ↦
          let reading = within.readings p p_in p_works q q_in q_works (eqb-false q p f) in
          absurd (omega (arith, ints, reading.2))
    ]

-- the limit leaves room for two drifts
two_drifts : (n m s e r : ℕ) → 0 < n → 2 * n * (e + r) + s * (3 * m) ≤ s * n → 2 * r ≤ s
two_drifts n m s e r some wide =
    let least : n * (2 * r) ≤ n * s = omega arith in
    le_of_mul-le-mul_left least some

-- and the rest of it for two errors of each clock and three skews of each faulty one
two_errors : (n m faulty s e r rest : ℕ) → s ≡ rest + 2 * r → faulty ≤ m → 2 * n * (e + r) + s * (3 * m) ≤ s * n
    → n * (2 * e) + faulty * (3 * s) ≤ n * rest
two_errors n m faulty s e r rest parts few wide =
    let split : n * s ≡ n * rest + n * (2 * r) = rw parts (grind arith) in
    let shares : faulty * (3 * s) ≤ m * (3 * s) = mul-le-mul_right (3 * s) few in
    omega arith

-- of n clocks, at most m of them faulty, the working ones stay within the skew S if S * (n - 3m) >= 2n * (E + R),
-- with the reading error E and the drift R
pub skew_is_kept : SkewIsKept
skew_is_kept skew error rate us works clock drift read m within few wide =
    kept_from (λ s e r. (pos (2 * length us) *ℤ (e +ℤ r)) ≤ℤ (s *ℤ (pos (length us) -ℤ pos (3 * m)))) us works clock drift read
    (λ s e r room_in within_in p q p_in p_works q_in q_works.
    let wide_in = room (length us) m s e r room_in in
    let drifts = two_drifts (length us) m s e r (length-has p us p_in) wide_in in
    let parts : s ≡ (s - 2 * r) + 2 * r = omega arith in
    step_by_room s e r (s - 2 * r) us works works clock drift read (own_readers (pos s) (pos e) (pos r) us works clock drift read within_in) within_in.drifts (omega arith)
    (two_errors (length us) m (faulty_count works us) s e r (s - 2 * r) parts few wide_in) p q p_in p_works q_in q_works)
    skew error rate wide within

-- at most one is none or one
none_or_one : (k : ℕ) → k ≤ 1 → (k ≡ 0) ⊎ (k ≡ 1)
none_or_one zero few = inl refl
none_or_one (suc zero) few = inr refl
none_or_one (suc (suc k)) few = absurd (omega arith)

-- without a faulty clock, twice the errors and the drifts leave room
no_fault : (n s e r : ℕ) → 2 * (e + r) ≤ s → n * (2 * e) ≤ n * (s - 2 * r)
no_fault n s e r wide = mul-le-mul_left n (omega arith)

-- where no clock is faulty, the clocks stay within the skew S if S >= 2 * (E + R), with the reading error E and the drift R
pub skew_is_kept_without_faults : SkewIsKeptWithoutFaults
skew_is_kept_without_faults skew error rate us works clock drift read within none wide =
    kept_from (λ s e r. (pos 2 *ℤ (e +ℤ r)) ≤ℤ s) us works clock drift read
    (λ s e r room_in within_in.
    let least = no_fault (length us) s e r (omega (arith, ints)) in
    step_by_room s e r (s - 2 * r) us works works clock drift read (own_readers (pos s) (pos e) (pos r) us works clock drift read within_in) within_in.drifts
    (omega (arith, ints)) (rw none (omega arith)))
    skew error rate wide within

-- with five clocks and more, and one faulty, five times as much does
five_clocks : (n s e r : ℕ) → 5 ≤ n → 5 * (e + r) ≤ s → n * (2 * e) + 3 * s ≤ n * (s - 2 * r)
five_clocks n s e r five wide =
    let more : ℕ = n - 5 in
    let rest : ℕ = s - 2 * r in
    let clocks : n ≡ 5 + more = omega arith in
    let errors : n * (2 * e) ≡ 10 * e + 2 * (more * e) = rw clocks (grind arith) in
    let rests : n * rest ≡ 5 * rest + more * rest = rw clocks (grind arith) in
    let least : more * (2 * e) ≤ more * rest = mul-le-mul_left more (omega arith) in
    omega arith

-- with margin there are five clocks and more, or none is faulty
with_margin : (works : ℕ → Bool) (us : List ℕ) (s e r : ℕ) → HasMargin works us → 5 * (e + r) ≤ s
    → length us * (2 * e) + faulty_count works us * (3 * s) ≤ length us * (s - 2 * r)
with_margin works us s e r margin wide =
    let counts = both_counts works us in
    elim (none_or_one (faulty_count works us) margin.few) [
      | inl none ↦ rw none (let least = no_fault (length us) s e r (omega arith) in omega arith)
      | inr one ↦ rw one (let least = five_clocks (length us) s e r (omega (arith, margin.enough)) wide in omega arith)
    ]

-- in a configuration with margin, the working clocks stay within the skew S if S >= 5 * (E + R), with the reading error E and the drift R
pub skew_is_kept_with_margin : SkewIsKeptWithMargin
skew_is_kept_with_margin skew error rate us works clock drift read within margin wide =
    kept_from (λ s e r. (pos 5 *ℤ (e +ℤ r)) ≤ℤ s) us works clock drift read
    (λ s e r room_in within_in.
    let five : 5 * (e + r) ≤ s = omega (arith, ints) in
    step_by_room s e r (s - 2 * r) us works works clock drift read (own_readers (pos s) (pos e) (pos r) us works clock drift read within_in) within_in.drifts (omega arith)
    (with_margin works us s e r margin five))
    skew error rate wide within

-- so do all who read the working clocks well: no skew, reading error or drift of theirs is negative
pub readers_are_kept_with_margin : ReadersAreKeptWithMargin
readers_are_kept_with_margin (pos s) (pos e) (pos r) us reads works clock drift read some readers drifts margin wide =
    let five : 5 * (e + r) ≤ s = omega (arith, ints) in
    step_by_room s e r (s - 2 * r) us reads works clock drift read readers drifts (omega arith) (with_margin works us s e r margin five)
readers_are_kept_with_margin (negsuc s) e r us reads works clock drift read some readers drifts margin wide =
    λ p q p_in p_reads q_in q_reads. absurd (omega (arith, ints, readers.together p p p_in p_reads p_in p_reads))
readers_are_kept_with_margin (pos s) (negsuc e) r us reads works clock drift read some readers drifts margin wide = absurd (omega (arith, ints, some))
readers_are_kept_with_margin (pos s) (pos e) (negsuc r) us reads works clock drift read some readers drifts margin wide =
    λ p q p_in p_reads q_in q_reads. absurd (omega (arith, ints, drifts p p_in p_reads))
