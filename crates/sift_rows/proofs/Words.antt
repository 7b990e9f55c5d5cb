-- Rows of words, slots and draws, worked out elsewhere: what the definitions give there.
use Rattle.std.proofs.Common.{◌≡◌, pos, ◌-ℤ◌, [], ◌∷◌, refl, map, ◌^◌}
use Rattle.sift_base.specs.Draw.{after, draw_at}
use Rattle.sift_base.specs.Layout.{slot_count, slot_number}
use Rattle.sift_base.specs.Word.{signed_of}
use Rattle.sift_base.specs.declared.slots.Layout.{Layout}
use Rattle.sift_base.specs.declared.slots.Slot.TheVariants.{Clock, Sense, RelaySense, Out, Report, RelayReport}

-- the upper half is negative
signed_words : map signed_of (0 ∷ 32767 ∷ 32768 ∷ 65535 ∷ []) ≡ pos 0 ∷ pos 32767 ∷ (pos 0 -ℤ pos 32768) ∷ (pos 0 -ℤ pos 1) ∷ []
signed_words = refl

-- six units, three sensors and five words
abbrev six : Layout
six = record { units = 6; sensors = 3; words = 5 }

-- slots are numbered in their order
numbers : map (slot_number six) (Clock ∷ Sense 0 ∷ Sense 2 ∷ RelaySense 0 ∷ RelaySense 2 ∷ Out 0 ∷ Out 4 ∷ Report ∷ RelayReport 0 ∷ RelayReport 5 ∷ [])
    ≡ 0 ∷ 1 ∷ 3 ∷ 4 ∷ 6 ∷ 7 ∷ 11 ∷ 12 ∷ 13 ∷ 18 ∷ []
numbers = refl

count : slot_count six ≡ 19
count = refl

-- the largest layout
largest : slot_count (record { units = 8; sensors = 8; words = 64 }) ≡ 90
largest = refl

-- what three draws from 0 give, by the generator with the constants of MMIX
draws : draw_at 0 0 (2 ^ 31) ∷ draw_at 0 1 4 ∷ draw_at 0 2 (2 ^ 31) ∷ [] ≡ 167951807 ∷ 0 ∷ 1299921937 ∷ []
unfolding after
draws = refl
