-- Rows of readings and corrections at the ends of their ranges, where no mission comes.
use Rattle.std.proofs.Common.{◌≡◌, ℤ, pos, ◌-ℤ◌, ◌^◌, true, Option, Some, None, List, [], ◌∷◌, refl}
use Rattle.sift_base.specs.Word.{word_of}
use Rattle.sift_clock.specs.Correction.{correction_of, is_too_far, reading_of}

-- the ends of i32 and i64
abbrev least : ℤ
least = pos 0 -ℤ pos (2 ^ 31)

abbrev most : ℤ
most = pos (2 ^ 31) -ℤ pos 1

abbrev highest : ℤ
highest = pos (2 ^ 63) -ℤ pos 1

-- seven equal readings of eight clocks
abbrev seven : ℤ → List (Option ℤ)
seven n = Some n ∷ Some n ∷ Some n ∷ Some n ∷ Some n ∷ Some n ∷ Some n ∷ []

-- no limit reaches the lowest number, and 1879048191 is the floor of 7 * 2147483647 / 8
means : correction_of most 8 (seven least) ∷ correction_of most 8 (seven most) ∷ [] ≡ pos 0 ∷ pos 1879048191 ∷ []
means = refl

-- a word is at most half of all words away
halves : reading_of (Some 32767) (pos 0) (pos 0) ∷ reading_of (Some 32768) (pos 0) (pos 0) ∷ []
    ≡ Some (pos 32767) ∷ Some (pos 0 -ℤ pos 32768) ∷ []
halves = refl

-- the largest errors are added
errors : reading_of (Some 8000) (pos 0) (pos 8000) ∷ reading_of (Some 0) (pos 8000) (pos 0 -ℤ pos 8000) ∷ []
    ≡ Some (pos 16000) ∷ Some (pos 0 -ℤ pos 16000) ∷ []
errors = refl

-- what is past the farthest limits is too far
far : is_too_far (pos 0 -ℤ pos 1) (Some (pos 0)) ∷ is_too_far most (Some least) ∷ is_too_far most None ∷ [] ≡ true ∷ true ∷ true ∷ []
far = refl

-- the farthest offsets are told by their lowest bits
words : word_of highest ∷ word_of (pos 0 -ℤ pos (2 ^ 63)) ∷ [] ≡ 65535 ∷ 0 ∷ []
words = refl
