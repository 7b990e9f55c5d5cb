-- How close corrected offsets are, and where that is close enough.
use Rattle.std.proofs.Common.{◌≡◌, ℕ, zero, suc, ◌+◌, ◌*◌, ◌<◌, ◌≤◌, length, ℤ, pos, negsuc, ◌+ℤ◌, ◌-ℤ◌, ◌*ℤ◌, sym, ap, ◌∙◌, arith}
use Rattle.std.proofs.lemmas.Int.{ints}
use Rattle.std.proofs.Math.IntN.{*ℤ_comm, suc_ℤ, suc_ℤ-*ℤ}
use Rattle.std.proofs.Math.Nat.{mul-le-mul_right}
use Rattle.sift_base.specs.Units.{faulty_count}
use Rattle.sift_base.specs.laws.Counts.{length-has}
use Rattle.sift_skew.specs.Keeping.{AreReaders, CeilingFitsExactlyWhere, CorrectedOffsetsAreClose, IsCeiling, left_apart}
use Rattle.sift_skew.proofs.Products.{scaled-add, scaled-sub, scaled-≤}
use Rattle.sift_skew.proofs.Steps.{corrected_by_room}

-- the ceiling of a sum that isn't negative isn't negative
ceiling_natural : (s e n m k : ℕ) → 0 < n → IsCeiling (left_apart (pos s) (pos e) n m) n (negsuc k) → ⊥
ceiling_natural s e n m k some ceiling =
    let below = scaled-≤ n (negsuc k) (negsuc 0) (omega (arith, ints)) in
    let enough = ceiling.enough in
    omega (arith, ints, below, enough)

-- the shares of so many faulty clocks, and fewer
fewer_shares : (n m faulty s e rest : ℕ) → faulty ≤ m → 2 * n * e + 3 * m * s ≤ n * rest → n * (2 * e) + faulty * (3 * s) ≤ n * rest
fewer_shares n m faulty s e rest few wide =
    let shares : faulty * (3 * s) ≤ m * (3 * s) = mul-le-mul_right (3 * s) few in
    omega arith

-- of n clocks, at most m of them faulty, the corrected offsets of the working ones differ by at most the ceiling of (2nE + 3mS) / n,
-- with the skew S and the reading error E
pub corrected_offsets_are_close : CorrectedOffsetsAreClose
corrected_offsets_are_close (negsuc s) error us works clock read m ceiling some together readings few is =
    λ p q p_in p_works q_in q_works. absurd (omega (arith, ints, together p p p_in p_works p_in p_works))
corrected_offsets_are_close (pos s) (negsuc e) us works clock read m ceiling some together readings few is =
    absurd (omega (arith, ints, some))
corrected_offsets_are_close (pos s) (pos e) us works clock read m (negsuc k) some together readings few is =
    λ p q p_in p_works q_in q_works. absurd (ceiling_natural s e (length us) m k (length-has p us p_in) is)
corrected_offsets_are_close (pos s) (pos e) us works clock read m (pos rest) some together readings few is =
    let readers : AreReaders (pos s) (pos e) us works works clock read = record { wider = λ u t. t; together = together; readings = readings } in
    let wide : 2 * length us * e + 3 * m * s ≤ length us * rest = omega (arith, ints, is.enough) in
    corrected_by_room s e rest us works works clock read readers (fewer_shares (length us) m (faulty_count works us) s e rest few wide)

-- twice as many times a number
twice : (n : ℕ) (a : ℤ) → pos (2 * n) *ℤ a ≡ pos n *ℤ a +ℤ pos n *ℤ a
twice zero a = omega (arith, ints)
twice (suc n) a = let rest = twice n a in omega (arith, ints)

-- the next number is one more
suc-is : (b : ℤ) → suc_ℤ b ≡ b +ℤ pos 1
suc-is (pos n) = omega (arith, ints)
suc-is (negsuc zero) = omega (arith, ints)
suc-is (negsuc (suc n)) = omega (arith, ints)

-- a sum times a number
add-times : (b : ℤ) (k : ℕ) (a : ℤ) → (b +ℤ pos k) *ℤ a ≡ b *ℤ a +ℤ pos k *ℤ a
add-times b zero a = let none : b +ℤ pos 0 ≡ b = omega (arith, ints) in rw none (omega (arith, ints))
add-times b (suc k) a =
    let one_more : b +ℤ pos (suc k) ≡ suc_ℤ (b +ℤ pos k) = (let next = suc-is (b +ℤ pos k) in omega (arith, ints, next)) in
    let step = suc_ℤ-*ℤ (b +ℤ pos k) a in
    let rest = add-times b k a in
    rw one_more (omega (arith, ints, step, rest))

-- a number times a difference of natural numbers
times-sub : (a : ℤ) (n k : ℕ) → a *ℤ (pos n -ℤ pos k) ≡ pos n *ℤ a -ℤ pos k *ℤ a
times-sub a n k =
    let back : pos n -ℤ pos k +ℤ pos k ≡ pos n = omega (arith, ints) in
    let whole : pos n *ℤ a ≡ (pos n -ℤ pos k) *ℤ a +ℤ pos k *ℤ a = ap (λ b. b *ℤ a) (sym back) ∙ add-times (pos n -ℤ pos k) k a in
    let turned = *ℤ_comm a (pos n -ℤ pos k) in
    omega (arith, ints, whole, turned)

-- the ceiling of (2nE + 3mS) / n and two drifts R are at most S exactly where S * (n - 3m) >= 2n * (E + R)
pub ceiling_fits_exactly_where : CeilingFitsExactlyWhere
ceiling_fits_exactly_where skew error rate n m ceiling is =
    let drifts = scaled-add n rate rate in
    let parts = scaled-sub n skew (rate +ℤ rate) in
    let errors = scaled-add (2 * n) error rate in
    let doubled = twice n rate in
    let shares = times-sub skew n (3 * m) in (
      (λ fits.
          let grown = scaled-≤ n ceiling (skew -ℤ (rate +ℤ rate)) (omega (arith, ints)) in
          let enough = is.enough in
          omega (arith, ints, grown, enough, drifts, parts, errors, doubled, shares)),
      (λ wide.
          let least = is.least (skew -ℤ (rate +ℤ rate)) (omega (arith, ints, wide, drifts, parts, errors, doubled, shares)) in
          omega (arith, ints, least)),
    )
