-- The calm mission `gauge` flies.
use Rattle.std.proofs.Common.{sym, ◌&&◌, ap, ◌≡◌, ℕ, zero, suc, ◌+◌, ◌<◌, ◌≤◌, List, [], ◌∷◌, slice_index, map, true, nat_eq, refl, subst, arith, ltb-true, eqb-true}
use Rattle.std.proofs.lemmas.Bool.{agree_below_at, and_parts}
use Rattle.sift_base.specs.Units.{has}
use Rattle.sift_base.specs.Word.{word_count, add, mul}
use Rattle.sift_base.specs.declared.slots.Slot.{Slot}
use Rattle.sift_base.specs.declared.slots.Slot.TheVariants.{Clock, Sense, RelaySense, Out, Report, RelayReport}
use Rattle.sift_vote.specs.Majority.{agreed_of}
use Rattle.sift_mission.specs.Slots.{is_slot, executors}
use Rattle.sift_mission.specs.Fits.{Fits, IsNumbered, SameAt}
use Rattle.sift_conduct.specs.Conduct.{input_of}
use Rattle.sift_flight.specs.Calm.{four_units, due_in, heard_in, mission_of}
use Rattle.sift_flight.specs.CalmFlight.{word_in}
use Rattle.sift_flight.specs.Calms.{FliesCalmly, gauge_kind, gauge}
use Rattle.sift_flight.proofs.CalmStages.{IsPlain}
use Rattle.sift_flight.proofs.CalmBoards.{IsCalm, calm_lawful, calm_landed}
use Rattle.sift_flight.proofs.CalmConduct.{four, place, HasFigures, conduct_by, own_words}
use Rattle.sift_flight.proofs.CalmFits.{four_are_below, fits_by, flyable_by, has_margin}
use Rattle.sift_flight.proofs.CalmBoards.{heard_by, frame_in}
use Rattle.sift_flight.proofs.GaugeProgram.{one, two, runs}

-- ---- the layout

abbrev number_of : Slot → ℕ
number_of k = (mission_of gauge).number k

-- each of the ten slots has its number
numbered : IsNumbered (mission_of gauge)
numbered = record {
  few = omega arith;
  low = low;
  back = back;
  slot = λ i h. agree_below_at (λ i. is_slot (mission_of gauge) (gauge_kind i)) (λ i. true) 10 i refl h;
  there = λ i h. eqb-true _ i (agree_below_at (λ i. nat_eq (number_of (gauge_kind i)) i) (λ i. true) 10 i refl h);
}
  where
    low : (k : Slot) → is_slot (mission_of gauge) k ≡ true → number_of k < 10
    low Clock e = omega arith
    low (Sense x) e = one (λ x. number_of (Sense x) < 10) (omega arith) x (ltb-true x 1 e)
    low (RelaySense x) e = one (λ x. number_of (RelaySense x) < 10) (omega arith) x (ltb-true x 1 e)
    low (Out w) e = two (λ w. number_of (Out w) < 10) (omega arith) (omega arith) w (ltb-true w 2 e)
    low Report e = omega arith
    low (RelayReport s) e = four (λ s. number_of (RelayReport s) < 10) (omega arith) (omega arith) (omega arith) (omega arith) s e

    back : (k : Slot) → is_slot (mission_of gauge) k ≡ true → gauge_kind (number_of k) ≡ k
    back Clock e = refl
    back (Sense x) e = one (λ x. gauge_kind (number_of (Sense x)) ≡ Sense x) refl x (ltb-true x 1 e)
    back (RelaySense x) e = one (λ x. gauge_kind (number_of (RelaySense x)) ≡ RelaySense x) refl x (ltb-true x 1 e)
    back (Out w) e = two (λ w. gauge_kind (number_of (Out w)) ≡ Out w) refl refl w (ltb-true w 2 e)
    back Report e = refl
    back (RelayReport s) e = four (λ s. gauge_kind (number_of (RelayReport s)) ≡ RelayReport s) refl refl refl refl s e

-- its figures are those of a small mission
plain : IsPlain gauge
plain = record { long = omega arith; short = omega arith; sensors = omega arith; tasks = omega arith; starts = refl; steady = refl; words = words; timed = timed }
  where
    words : (n : ℕ) → word_in gauge (gauge_kind n) < word_count
    words zero = omega arith
    words (suc zero) = omega arith
    words (suc (suc zero)) = omega arith
    words (suc (suc (suc zero))) = omega arith
    words (suc (suc (suc (suc zero)))) = omega arith
    words (suc (suc (suc (suc (suc zero))))) = omega arith
    words (suc (suc (suc (suc (suc (suc s)))))) = omega arith

    timed : (n : ℕ) → (due_in gauge (gauge_kind n) + 2 ≤ heard_in gauge (gauge_kind n)) × (heard_in gauge (gauge_kind n) + 2 ≤ 14)
    timed zero = (omega arith, omega arith)
    timed (suc zero) = (omega arith, omega arith)
    timed (suc (suc zero)) = (omega arith, omega arith)
    timed (suc (suc (suc zero))) = (omega arith, omega arith)
    timed (suc (suc (suc (suc zero)))) = (omega arith, omega arith)
    timed (suc (suc (suc (suc (suc zero))))) = (omega arith, omega arith)
    timed (suc (suc (suc (suc (suc (suc s)))))) = (omega arith, omega arith)

-- the second task needs the first one's word
needed : (w v : ℕ) → nat_eq w 1 && nat_eq v 0 ≡ true → (w ≡ 1) × (v ≡ 0)
needed w v t = let b = and_parts (nat_eq w 1) (nat_eq v 0) t in (eqb-true w 1 b.0, eqb-true v 0 b.1)

abbrev runs_at : ℕ → ℕ
runs_at w = slice_index (4 ∷ 6 ∷ []) w

-- its tables fit
fits : Fits (mission_of gauge)
fits = fits_by gauge plain numbered
    (record { late = λ w low. two (λ w. 4 ≤ runs_at w) (omega arith) (omega arith) w low; early = λ w low. two (λ w. runs_at w + 8 ≤ 14) (omega arith) (omega arith) w low })
    (record {
      reads = reads;
      earlier = λ w v low v_low t. let e = needed w v t in omega (arith, e);
      polled = λ us w v config low v_low kept t. let e = needed w v t in subst (λ w. runs_at v + 2 ≤ runs_at w) (sym e.0) (subst (λ v. runs_at v + 2 ≤ 6) (sym e.1) (omega arith));
    })
  where
    reads : (w : ℕ) (ins ins' now now' last : List ℕ) → w < 2 → SameAt (λ x. true) 1 ins ins' → SameAt (gauge.needs w) 2 now now'
        → (mission_of gauge).word w ins now last ≡ (mission_of gauge).word w ins' now' last
    reads zero ins ins' now now' last low same_ins same_now = ap (λ (n : ℕ). add n 1) (same_ins 0 (omega arith) refl)
    reads (suc zero) ins ins' now now' last low same_ins same_now = ap (λ (n : ℕ). add (mul 2 n) (slice_index last 1)) (same_now 0 (omega arith) refl)
    reads (suc (suc w)) ins ins' now now' last low same_ins same_now = absurd (omega arith)

-- ---- the frame

abbrev outs : List ℕ
outs = 8 ∷ 25 ∷ []

-- each unit makes 8 and 25
made_is : (w : ℕ) → w < 2 → (mission_of gauge).word w (7 ∷ []) outs (5 ∷ 9 ∷ []) ≡ slice_index outs w
made_is w low = two (λ w. (mission_of gauge).word w (7 ∷ []) outs (5 ∷ 9 ∷ []) ≡ slice_index outs w) refl refl w low

abbrev voted : ℕ → ℕ → ℕ
voted u w = agreed_of (map (place gauge u w) (executors (mission_of gauge) four_units w))

-- the word that a unit takes for the sensor's
abbrev read : ℕ → ℕ → ℕ
read u x = input_of (frame_in gauge u (heard_by gauge u)) x

-- what a unit takes for the sensor, where it takes 7
inputs : (u : ℕ) → 7 ≡ read u 0 → (x : ℕ) → x < 1 → slice_index (7 ∷ []) x ≡ read u x
inputs u e x low = one (λ x. slice_index (7 ∷ []) x ≡ read u x) e x low

-- what a unit votes, where it votes 8 and 25
votes : (u : ℕ) → 8 ≡ voted u 0 → 25 ≡ voted u 1 → (w : ℕ) → w < 2 → slice_index outs w ≡ voted u w
votes u e d w low = two (λ w. slice_index outs w ≡ voted u w) e d w low

-- the figures of each unit
figures : (u : ℕ) → has four_units u ≡ true → HasFigures gauge u
figures u hu = four (λ u. HasFigures gauge u)
    (record { ins = inputs 0 refl; votes = votes 0 refl refl; polls = refl; relays = refl; clocks = refl; cfg = refl; clk = refl })
    (record { ins = inputs 1 refl; votes = votes 1 refl refl; polls = refl; relays = refl; clocks = refl; cfg = refl; clk = refl })
    (record { ins = inputs 2 refl; votes = votes 2 refl refl; polls = refl; relays = refl; clocks = refl; cfg = refl; clk = refl })
    (record { ins = inputs 3 refl; votes = votes 3 refl refl; polls = refl; relays = refl; clocks = refl; cfg = refl; clk = refl })
    u hu

-- so each unit does what it ought to
calm : IsCalm gauge
calm = record {
  plain = plain;
  fits = fits;
  below = four_are_below gauge 4 (omega arith);
  conduct = λ u hu. conduct_by gauge refl u (figures u hu);
  own = own_words gauge made_is;
}

-- and the mission flies
pub gauge_flies : FliesCalmly gauge
gauge_flies = record { flyable = flyable_by gauge plain fits; runs = runs; lawful = calm_lawful gauge calm; landed = calm_landed gauge calm; margin = has_margin gauge }
