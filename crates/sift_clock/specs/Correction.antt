-- How a unit reads the clocks of others, and corrects its own by the mean of its readings, its own clock read as 0.
use Rattle.std.specs.Prelude.{ℕ, ℤ, pos, ◌+ℤ◌, int_lt, unsigned_abs, Bool, true, if◌then◌else◌, Option, None, Some, ◌<◌, ◌*ℤ◌, ◌≤ℤ◌, ◌<ℤ◌, List, [], ◌∷◌, length, map}
use Rattle.std.specs.Int.{int_div_euclid}
use Rattle.sift_base.specs.Word.{signed_of, word_of, sub}
use Rattle.sift_base.specs.Units.{others}

-- ---- what a unit reads: an offset is a whole number of ticks, and a clock word is its lowest 16 bits

-- the reading of a clock: how far the heard word is ahead of the own offset's, in two's complement, and the error; none where nothing was heard
abbrev pub reading_of : Option ℕ → ℤ → ℤ → Option ℤ
reading_of None own error = None
reading_of (Some heard) own error = Some (signed_of (sub heard (word_of own)) +ℤ error)

-- whether the reading is absent, or farther than the limit from 0
abbrev pub is_too_far : ℤ → Option ℤ → Bool
is_too_far limit None = true
is_too_far limit (Some ticks) = int_lt limit (pos (unsigned_abs ticks))

-- what a reading counts for: 0 where it is absent or too far, else what it is
abbrev pub counted : ℤ → Option ℤ → ℤ
counted limit None = pos 0
counted limit (Some ticks) = if is_too_far limit (Some ticks) then pos 0 else ticks

-- ---- how it corrects its clock

-- the sum of the numbers
abbrev pub int_sum : List ℤ → ℤ
int_sum [] = pos 0
int_sum (n ∷ ns) = n +ℤ int_sum ns

-- the correction with this limit among so many clocks: the floor of the sum of what the readings count for, divided by the number of clocks
abbrev pub correction_of : ℤ → ℕ → List (Option ℤ) → ℤ
correction_of limit clocks readings = int_div_euclid (int_sum (map (counted limit) readings)) (pos clocks)

-- the corrected offset of unit u in a configuration: the own offset, and the correction by what it reads of the others
abbrev pub corrected_offset : ℤ → List ℕ → (ℕ → Option ℤ) → ℤ → ℕ → ℤ
corrected_offset limit us read own u = own +ℤ correction_of limit (length us) (map read (others u us))

-- the sum of what the readings count for
abbrev pub counted_sum : ℤ → List (Option ℤ) → ℤ
counted_sum limit readings = int_sum (map (counted limit) readings)

-- the correction is the floor of the mean: times the number of clocks it is at most the counted sum, and a tick
-- more for each clock would be too much
abbrev pub CorrectionIsTheFloor : Type 0
CorrectionIsTheFloor =
    (limit : ℤ) (clocks : ℕ) (readings : List (Option ℤ)) → 0 < clocks →
    ((pos clocks *ℤ correction_of limit clocks readings) ≤ℤ counted_sum limit readings)
    × (counted_sum limit readings <ℤ (pos clocks *ℤ correction_of limit clocks readings +ℤ pos clocks))
