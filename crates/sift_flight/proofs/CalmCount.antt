-- The calm mission `count` flies.
use Rattle.std.proofs.Common.{◌≡◌, ℕ, zero, suc, ◌+◌, ◌<◌, ◌≤◌, [], ◌∷◌, slice_index, map, true, nat_eq, refl, arith, ltb-true, eqb-true}
use Rattle.std.proofs.lemmas.Bool.{agree_below_at}
use Rattle.sift_base.specs.Units.{has}
use Rattle.sift_base.specs.Word.{word_count}
use Rattle.sift_base.specs.declared.slots.Slot.{Slot}
use Rattle.sift_base.specs.declared.slots.Slot.TheVariants.{Clock, Sense, RelaySense, Out, Report, RelayReport}
use Rattle.sift_vote.specs.Majority.{agreed_of}
use Rattle.sift_mission.specs.Slots.{is_slot, executors}
use Rattle.sift_mission.specs.Fits.{Fits, IsNumbered}
use Rattle.sift_flight.specs.Calm.{four_units, due_in, heard_in, mission_of}
use Rattle.sift_flight.specs.CalmFlight.{word_in}
use Rattle.sift_flight.proofs.CalmStages.{IsPlain}
use Rattle.sift_flight.proofs.CalmBoards.{IsCalm, calm_lawful, calm_landed}
use Rattle.sift_flight.proofs.CalmConduct.{four, place, HasFigures, conduct_by, own_words}
use Rattle.sift_flight.proofs.CalmFits.{four_are_below, fits_by, flyable_by, has_margin}
use Rattle.sift_flight.specs.Calms.{FliesCalmly, count_kind, count}
use Rattle.sift_flight.proofs.CountProgram.{one_word, runs}

-- there is no sensor
no_sensor : {X : Type 0} (x : ℕ) → x < 0 → X
no_sensor x low = absurd (omega arith)

-- ---- the layout

-- each of the seven slots has its number
numbered : IsNumbered (mission_of count)
numbered = record {
  few = omega arith;
  low = low;
  back = back;
  slot = λ i h. agree_below_at (λ i. is_slot (mission_of count) (count_kind i)) (λ i. true) 7 i refl h;
  there = λ i h. eqb-true _ i (agree_below_at (λ i. nat_eq ((mission_of count).number (count_kind i)) i) (λ i. true) 7 i refl h);
}
  where
    low : (k : Slot) → is_slot (mission_of count) k ≡ true → (mission_of count).number k < 7
    low Clock e = omega arith
    low (Sense x) e = no_sensor x (ltb-true x 0 e)
    low (RelaySense x) e = no_sensor x (ltb-true x 0 e)
    low (Out w) e = one_word (λ w. (mission_of count).number (Out w) < 7) (omega arith) w (ltb-true w 1 e)
    low Report e = omega arith
    low (RelayReport s) e = four (λ s. (mission_of count).number (RelayReport s) < 7) (omega arith) (omega arith) (omega arith) (omega arith) s e

    back : (k : Slot) → is_slot (mission_of count) k ≡ true → count_kind ((mission_of count).number k) ≡ k
    back Clock e = refl
    back (Sense x) e = no_sensor x (ltb-true x 0 e)
    back (RelaySense x) e = no_sensor x (ltb-true x 0 e)
    back (Out w) e = one_word (λ w. count_kind ((mission_of count).number (Out w)) ≡ Out w) refl w (ltb-true w 1 e)
    back Report e = refl
    back (RelayReport s) e = four (λ s. count_kind ((mission_of count).number (RelayReport s)) ≡ RelayReport s) refl refl refl refl s e

-- its figures are those of a small mission
plain : IsPlain count
plain = record { long = omega arith; short = omega arith; sensors = omega arith; tasks = omega arith; starts = refl; steady = refl; words = words; timed = timed }
  where
    words : (n : ℕ) → word_in count (count_kind n) < word_count
    words zero = omega arith
    words (suc zero) = omega arith
    words (suc (suc zero)) = omega arith
    words (suc (suc (suc s))) = omega arith

    timed : (n : ℕ) → (due_in count (count_kind n) + 2 ≤ heard_in count (count_kind n)) × (heard_in count (count_kind n) + 2 ≤ 12)
    timed zero = (omega arith, omega arith)
    timed (suc zero) = (omega arith, omega arith)
    timed (suc (suc zero)) = (omega arith, omega arith)
    timed (suc (suc (suc s))) = (omega arith, omega arith)

-- its tables fit
fits : Fits (mission_of count)
fits = fits_by count plain numbered
    (record {
      late = λ w low. one_word (λ w. 4 ≤ slice_index (4 ∷ []) w) (omega arith) w low;
      early = λ w low. one_word (λ w. slice_index (4 ∷ []) w + 8 ≤ 12) (omega arith) w low;
    })
    (record {
      reads = λ w ins ins' now now' last low same_ins same_now. one_word (λ w. (mission_of count).word w ins now last ≡ (mission_of count).word w ins' now' last) refl w low;
      earlier = λ w v low v_low t. absurd cc;
      polled = λ us w v config low v_low kept t. absurd cc;
    })

-- ---- the frame

-- each unit makes 16
made_is : (w : ℕ) → w < 1 → (mission_of count).word w [] (16 ∷ []) (5 ∷ []) ≡ slice_index (16 ∷ []) w
made_is w low = one_word (λ w. (mission_of count).word w [] (16 ∷ []) (5 ∷ []) ≡ slice_index (16 ∷ []) w) refl w low

-- the word that a unit votes
abbrev voted : ℕ → ℕ → ℕ
voted u w = agreed_of (map (place count u w) (executors (mission_of count) four_units w))

-- what a unit votes, where it votes 16
votes : (u : ℕ) → 16 ≡ voted u 0 → (w : ℕ) → w < 1 → slice_index (16 ∷ []) w ≡ voted u w
votes u e w low = one_word (λ w. slice_index (16 ∷ []) w ≡ voted u w) e w low

-- the figures of each unit
figures : (u : ℕ) → has four_units u ≡ true → HasFigures count u
figures u hu = four (λ u. HasFigures count u)
    (record { ins = λ x low. no_sensor x low; votes = votes 0 refl; polls = refl; relays = refl; clocks = refl; cfg = refl; clk = refl })
    (record { ins = λ x low. no_sensor x low; votes = votes 1 refl; polls = refl; relays = refl; clocks = refl; cfg = refl; clk = refl })
    (record { ins = λ x low. no_sensor x low; votes = votes 2 refl; polls = refl; relays = refl; clocks = refl; cfg = refl; clk = refl })
    (record { ins = λ x low. no_sensor x low; votes = votes 3 refl; polls = refl; relays = refl; clocks = refl; cfg = refl; clk = refl })
    u hu

-- so each unit does what it ought to
calm : IsCalm count
calm = record {
  plain = plain;
  fits = fits;
  below = four_are_below count 4 (omega arith);
  conduct = λ u hu. conduct_by count refl u (figures u hu);
  own = own_words count made_is;
}

-- and the mission flies
pub count_flies : FliesCalmly count
count_flies = record { flyable = flyable_by count plain fits; runs = runs; lawful = calm_lawful count calm; landed = calm_landed count calm; margin = has_margin count }
