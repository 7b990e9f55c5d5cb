-- Clock words tell offsets apart.
use Rattle.std.proofs.Common.{◌≡◌, ℕ, zero, suc, ◌<◌, ◌≤◌, ℤ, pos, negsuc, ◌+ℤ◌, ◌-ℤ◌, ◌*ℤ◌, Some, inl, inr, arith, ap}
use Rattle.std.specs.Prelude.{nat_lt}
use Rattle.std.specs.Int.{int_div_euclid}
use Rattle.std.proofs.lemmas.Int.{ints}
use Rattle.std.proofs.lemmas.Bool.{cases_Bool, ltb-true, ltb-false}
use Rattle.sift_base.specs.Word.{signed_of, word_of, sub}
use Rattle.sift_clock.specs.Distance.{IsWithin}
use Rattle.sift_skew.specs.Keeping.{WordsAreReadRight, HeardClocksAreReadWell}

-- a word in two's complement, by its half
by_half : (w : ℕ) (z : ℤ) → (w < 32768 → pos w ≡ z) → (32768 ≤ w → (pos w -ℤ pos 65536) ≡ z) → signed_of w ≡ z
by_half w z low high =
    elim (cases_Bool (nat_lt w 32768)) [ inl t ↦ rw t (low (ltb-true w 32768 t)) | inr f ↦ rw f (high (ltb-false w 32768 f)) ]

-- a number is so many times 2 ^ 16, and a word
record Splits (z times : ℤ) (word : ℕ) : Type 0 where
  whole : z ≡ pos 65536 *ℤ times +ℤ pos word
  rest : word < 65536

-- each number is, with the word of it
splits_at : (z : ℤ) → Splits z (int_div_euclid z (pos 65536)) (word_of z)
splits_at (pos a) = record { whole = omega (arith, ints); rest = omega arith }
splits_at (negsuc a) = record { whole = omega (arith, ints); rest = omega arith }

-- the difference of two numbers, by that of their words
splits-sub : (a b p q r : ℤ) (x y w : ℕ) → Splits a p x → Splits b q y → Splits (pos x -ℤ pos y) r w
    → Splits (a -ℤ b) (p -ℤ q +ℤ r) w
splits-sub a b p q r x y w is_a is_b is_rest = record {
  whole = omega (arith, ints, is_a.whole, is_b.whole, is_rest.whole);
  rest = is_rest.rest;
}

-- a number near 0 is its word, where that is low
low_is : (z times : ℤ) (w : ℕ) → Splits z times w → IsWithin (pos 8000) z (pos 0) → w < 32768 → pos w ≡ z
low_is z (pos zero) w splits near low = omega (arith, ints, splits.whole)
low_is z (pos (suc q)) w splits near low = absurd (omega (arith, ints, splits.whole))
low_is z (negsuc q) w splits near low = absurd (omega (arith, ints, splits.whole))

-- and 2 ^ 16 less where it is high
high_is : (z times : ℤ) (w : ℕ) → Splits z times w → IsWithin (pos 8000) z (pos 0) → 32768 ≤ w → (pos w -ℤ pos 65536) ≡ z
high_is z (pos q) w splits near high = absurd (omega (arith, ints, splits.whole))
high_is z (negsuc zero) w splits near high = omega (arith, ints, splits.whole)
high_is z (negsuc (suc q)) w splits near high = absurd (omega (arith, ints, splits.whole, splits.rest))

-- the difference of the words of two numbers that are near each other
difference_is : (theirs own : ℤ) → IsWithin (pos 8000) theirs own
    → signed_of (sub (word_of theirs) (word_of own)) ≡ theirs -ℤ own
difference_is theirs own near =
    let ahead : ℤ = pos (word_of theirs) -ℤ pos (word_of own) in
    let splits = splits-sub _ _ _ _ _ _ _ _ (splits_at theirs) (splits_at own) (splits_at ahead) in
    let small : IsWithin (pos 8000) (theirs -ℤ own) (pos 0) = (omega (arith, ints), omega (arith, ints)) in
    by_half (word_of ahead) (theirs -ℤ own)
    (λ low. low_is (theirs -ℤ own) _ (word_of ahead) splits small low)
    (λ high. high_is (theirs -ℤ own) _ (word_of ahead) splits small high)

-- a clock word is read as the difference of the two offsets and the reading error, where the offsets are at most 8,000 ticks apart
pub words_are_read_right : WordsAreReadRight
words_are_read_right theirs own error near = ap (λ z. Some (z +ℤ error)) (difference_is theirs own near)

-- where the skew is at most 8,000 ticks, a unit that hears the words of the other working clocks, and misreads each
-- by at most the error, reads them well
pub heard_clocks_are_read_well : HeardClocksAreReadWell
heard_clocks_are_read_well skew error us works clock u heard errors low together u_in u_works hears v v_in v_works other =
    let word = hears v v_in v_works other in
    let ahead = together v u v_in v_works u_in u_works in
    let behind = together u v u_in u_works v_in v_works in
    let reading = words_are_read_right (clock v) (clock u) (errors v) (omega (arith, ints), omega (arith, ints)) in (
      (clock v -ℤ clock u) +ℤ errors v,
      rw word.0 reading,
      (omega (arith, ints, word.1), omega (arith, ints, word.1)),
    )
