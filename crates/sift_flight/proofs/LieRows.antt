-- The rows of the definitions of lies and of what they cost.
use Rattle.std.proofs.Common.{◌≡◌, ℕ, ◌<◌, [], ◌∷◌, slice_index, true, false, None, Some, refl, sym, ap, ◌∙◌, arith}
use Rattle.std.specs.FinSet as set
use Rattle.std.specs.Ordering.{nat_cmp}
use Rattle.std.specs.Prelude.{pos}
use Rattle.std.proofs.lemmas.Bool.{true≢false}
use Rattle.std.proofs.lemmas.Option.{none-some, same_Some}
use Rattle.sift_base.specs.Units.{has, holds}
use Rattle.sift_base.specs.declared.slots.Slot.TheVariants.{Clock, Sense, RelaySense, Out, Report, RelayReport}
use Rattle.sift_base.specs.laws.Sets.{holds-insert}
use Rattle.sift_clock.specs.Correction.{reading_of, is_too_far}
use Rattle.sift_config.specs.Config.{reader_of}
use Rattle.sift_exec.specs.declared.catches.Kind.{Kind}
use Rattle.sift_exec.specs.declared.catches.Kind.TheVariants.{Poll, Relay, Clock as Timed}
use Rattle.sift_flight.specs.Calm.{four_units, mission_of}
use Rattle.sift_flight.specs.Caught.{LiesAt, LiesCost, caught_in}
use Rattle.sift_flight.specs.Calms.{count}
use Rattle.sift_flight.specs.Figures.{Works}
use Rattle.sift_flight.specs.Flight.{Flight}
use Rattle.sift_flight.specs.Lies.{SaysItsOwn}
use Rattle.sift_flight.specs.LieRows.{LieRows, all_with, catching, is_report, lying, removing, with_lie}
use Rattle.sift_flight.specs.Rows.{calm_flight}

-- unit 3 lies to each unit that voted 16
lies_to : (fl : Flight) (q : ℕ) → slice_index (fl.account q 0).outs 0 ≡ 16 → LiesAt lying fl 0 3 q Poll
lies_to fl q voted = record {
  word = 0;
  said = Some 7;
  low = omega arith;
  executes = refl;
  script = refl;
  untrue = λ same. let e : 7 ≡ slice_index (fl.account q 0).outs 0 = same_Some _ _ same in omega (arith, e, voted);
}

-- the one word is word 0
first_word : (w : ℕ) → w < 1 → w ≡ 0
first_word w low = omega (arith, low)

-- the four work
work : (q : ℕ) → has four_units q ≡ true → Works lying q 0
work q hq = record { unit = hq; works = refl }

-- the unit is in the set of itself, and in no empty one
in_own : holds (set.insert set.empty 3) 3 ≡ true
in_own = holds-insert set.empty 3 3

in_none : holds set.empty 3 ≡ false
in_none = set.contains-empty nat_cmp 3

-- in a mission without sensors there is no relay to lie in, and unit 3 shows its own clock
removed : LiesCost lying (all_with removing) 0 3
removed = record { caught = caught; out = λ a b q r wq wr ne lie_q lie_r. refl }
  where
    caught : (way : Kind) (q : ℕ) → Works lying q 0 → LiesAt lying (all_with removing) 0 3 q way → caught_in way removing 3 ≡ true
    caught Poll q w lie = in_own
    caught Relay q w lie = let low = lie.low in absurd (omega (arith, low))
    caught Timed q w lie = let e = lie.script in absurd (none-some lie.said e)

pub lie_rows : LieRows
lie_rows = record {
  result = record { word = 0; said = Some 7; low = omega arith; executes = refl; script = refl; untrue = λ same. let e : 7 ≡ 16 = same_Some 7 16 same in omega (arith, e) };
  no_result = record { word = 0; said = None; low = omega arith; executes = refl; script = refl; untrue = λ same. none-some 16 same };
  true_result = λ lie. lie.untrue (sym (same_Some _ _ lie.script) ∙ ap (λ w. Some (slice_index (16 ∷ []) w)) (sym (first_word lie.word lie.low)));
  relay = record { sensor = 0; said = Some 6; low = omega arith; reads = refl; script = refl; untrue = λ same. let e : 6 ≡ 7 = same_Some 6 7 same in omega (arith, e) };
  no_reader = λ lie. let e : 0 ≡ 1 = ap (reader_of four_units) (sym (first_word lie.sensor lie.low)) ∙ lie.reads in omega (arith, e);
  clock = record { said = Some 9; script = refl; far = refl };
  true_clock = λ lie.
      true≢false (sym lie.far ∙ ap (λ said. is_too_far (pos 0) (reading_of said (pos 0) (pos 0))) (sym (same_Some _ _ lie.script)));
  own_words = own;
  other_words = λ own. none-some (Some 7) (sym (own (Out 0) 1 refl));
  cost = removed;
  uncaught = λ cost. true≢false (sym (cost.caught Poll 1 (work 1 refl) (lies_to (calm_flight count) 1 refl)) ∙ in_none);
  unremoved = λ cost. true≢false (cost.out Poll Poll 1 2 (work 1 refl) (work 2 refl) (λ e. omega (arith, e)) (lies_to (all_with catching) 1 refl) (lies_to (all_with catching) 2 refl));
}
  where
    own : SaysItsOwn (with_lie (mission_of count) is_report (Some 1)) 0 3
    own Clock q t = refl
    own (Sense x) q t = refl
    own (RelaySense x) q t = refl
    own (Out w) q t = refl
    own Report q t = absurd (true≢false t)
    own (RelayReport r) q t = absurd (true≢false t)
