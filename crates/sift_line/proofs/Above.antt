-- Texts that don't have a byte, since all of theirs are above it.
use Rattle.std.proofs.Common.{ℕ, suc, ◌<◌, ◌≤◌, ◌^◌, false, List, [], ◌∷◌, ◌++◌, map, ℤ, pos, negsuc, arith, w64}
use Rattle.std.specs.Int.RustNames.{FitsSigned}
use Rattle.std.specs.Fmt.{decimal, signed_decimal, digit_glyph}
use Rattle.std.specs.List.{join_with_byte}
use Rattle.std.specs.Str.Parse.{AllDigits}
use Rattle.std.proofs.lemmas.Bool.Decides.{nat_tests}
use Rattle.std.proofs.lemmas.Fmt.{decimal_is_IsNumeral}
use Rattle.std.proofs.lemmas.Str.Parse.{digit_from_value}
use Rattle.sift_line.specs.Part.{IsAbove, AreAbove, word_text}

-- two texts, one after the other
pub above-append : (c : ℕ) (xs ys : List ℕ) → IsAbove c xs → IsAbove c ys → IsAbove c (xs ++ ys)
above-append c [] ys h k = k
above-append c (x ∷ xs) ys h k = (h.0, above-append c xs ys h.1 k)

-- texts joined by a byte above it
pub above-join : (c between : ℕ) (texts : List (List ℕ)) → c < between → AreAbove c texts → IsAbove c (join_with_byte between texts)
above-join c between [] low h = tt
above-join c between (x ∷ []) low h = h.0
above-join c between (x ∷ y ∷ ys) low h =
    above-append c x (between ∷ join_with_byte between (y ∷ ys)) h.0 (low, above-join c between (y ∷ ys) low h.1)

-- the texts of some values
pub above-map : {V : Type 0} (c : ℕ) (text : V → List ℕ) (vs : List V) → ((v : V) → IsAbove c (text v)) → AreAbove c (map text vs)
above-map c text [] each = tt
above-map c text (v ∷ vs) each = (each v, above-map c text vs each)

-- what is above a byte is above each lower one
pub above-lower : (b c : ℕ) (text : List ℕ) → b ≤ c → IsAbove c text → IsAbove b text
above-lower b c [] low h = tt
above-lower b c (x ∷ xs) low h = (omega (arith, h.0), above-lower b c xs low h.1)

-- texts that are above a byte are above each lower one
pub all-lower : (b c : ℕ) (texts : List (List ℕ)) → b ≤ c → AreAbove c texts → AreAbove b texts
all-lower b c [] low h = tt
all-lower b c (x ∷ xs) low h = (above-lower b c x low h.0, all-lower b c xs low h.1)

-- ---- numbers and words

above-digits : (c : ℕ) (ds : List ℕ) → c < 48 → AllDigits 10 ds → IsAbove c ds
above-digits c [] low h = tt
above-digits c (d ∷ ds) low h = let range = digit_from_value d h.0 in (omega (arith, range.0), above-digits c ds low h.1)

-- the text of a number of 64 bits is above each byte below the digits
pub above-decimal : (c n : ℕ) → c < 48 → n < 2 ^ 64 → IsAbove c (decimal n)
above-decimal c n low small = above-digits c (decimal n) low (decimal_is_IsNumeral n small).0.1

-- the text of a signed number of 64 bits is above each byte below the dash
pub above-signed : (c : ℕ) (z : ℤ) → c < 45 → FitsSigned w64 z → IsAbove c (signed_decimal z)
above-signed c (pos n) low fits = above-decimal c n (omega arith) (omega (arith, fits))
above-signed c (negsuc n) low fits = (low, above-decimal c (suc n) (omega arith) (omega (arith, fits)))

above-digit : (c d : ℕ) → c < 48 → c < digit_glyph false d
above-digit c d low = grind (arith, nat_tests)

-- the text of a word is above each byte below the digits
pub above-word : (c w : ℕ) → c < 48 → IsAbove c (word_text w)
above-word c w low = (above-digit c _ low, (above-digit c _ low, (above-digit c _ low, (above-digit c _ low, tt))))
