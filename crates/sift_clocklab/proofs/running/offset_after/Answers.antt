use Rattle.std.proofs.Common.{◌≡◌, ℕ, ◌+◌, ◌<◌, List, length, map, get_or, Option, ℤ, pos, ◌+ℤ◌, ap, sym, ◌∙◌, w32, w64, to_z, of_z, arith, rules}
use Rattle.std.proofs.lemmas.Int.{ints, to_z-of_z}
use Rattle.std.proofs.lemmas.List.{get_or_default, length-map}
use Rattle.std.proofs.lemmas.List.FromFn.{length-range_with_len}
use mir.Val.{SFits}
use Rattle.sift_base.specs.Units.{others}
use Rattle.sift_clock.specs.Distance.{IsWithin}
use Rattle.sift_clock.specs.Correction.{correction_of}
use Rattle.sift_clocklab.specs.Laboratory.{Laboratory, clocks_of, drift_of, laboratory_of, reading_limit, working_of}
use Rattle.sift_clocklab.specs.Rounds.{offset_after, offset_of, reading_of}
use Rattle.sift_clocklab.specs.Skew.{IsClockRound, farthest}
use Rattle.sift_clocklab.proofs.Keeping.{near_after}
use Rattle.sift_clocklab.proofs.Ranges.{length-others-range}
use Rattle.sift_clocklab.proofs.running.offset_after.Goals as goal

-- the parts of the next offset, as they are read: the own offset, the correction, and the drift
record AreParts (lab : Laboratory) (offsets : List ℤ) (shown : List (Option ℤ)) (own at : ℕ) (limit correction drift : ℤ) : Type 0 where
  place : at ≡ own
  limit_is : limit ≡ reading_limit lab
  correction_is : correction ≡ correction_of limit lab.n (map (reading_of lab offsets shown own) (others own (clocks_of lab)))
  drift_is : drift ≡ get_or lab.drift at drift

-- their sum is the next offset, and that is near enough to 0
sum_is : (lab : Laboratory) (offsets : List ℤ) (shown : List (Option ℤ)) (own at : ℕ) (limit correction drift : ℤ)
    → IsClockRound lab offsets shown → own < working_of lab → AreParts lab offsets shown own at limit correction drift
    → (offset_of offsets at +ℤ correction +ℤ drift ≡ offset_after lab offsets shown own)
    × IsWithin (pos (farthest + 24000)) (offset_after lab offsets shown own) (pos 0)
sum_is lab offsets shown own at limit correction drift round low parts =
    let readings = map (reading_of lab offsets shown own) (others own (clocks_of lab)) in
    let corrected : correction ≡ correction_of (reading_limit lab) (length (clocks_of lab)) readings =
    parts.correction_is ∙ (λ i. correction_of (parts.limit_is i) (sym (length-range_with_len 0 lab.n) i) readings) in
    let drifts : drift ≡ drift_of lab own =
    parts.drift_is ∙ (get_or_default lab.drift at drift (pos 0) (omega (arith, round.ready.drift.each, parts.place))
    ∙ ap (drift_of lab) parts.place) in (
      (λ i. offset_of offsets (parts.place i) +ℤ corrected i +ℤ drifts i),
      near_after lab farthest offsets shown own round.ready round.kept low,
    )

-- parts that fit are held as they are
parts_held : (x y z : ℤ) → SFits w64 x → SFits w64 y → SFits w32 z
    → to_z w64 (of_z w64 x) +ℤ to_z w64 (of_z w64 y) +ℤ to_z w32 (of_z w32 z) ≡ x +ℤ y +ℤ z
parts_held x y z x_fits y_fits z_fits = λ i. to_z-of_z w64 x x_fits i +ℤ to_z-of_z w64 y y_fits i +ℤ to_z-of_z w32 z z_fits i

-- a sum that is near enough to 0 fits
sum_fits : (x n : ℤ) → x ≡ n → IsWithin (pos (farthest + 24000)) n (pos 0) → SFits w64 x
sum_fits x n is near = rw is (omega (arith, ints, near))

-- a clock reads all but itself
pub correction-mean-requires : goal.correction-mean-requires
correction-mean-requires c =
    let lab = laboratory_of c.args.lab.now in
    let all = length-others-range c.args.own 0 lab.n (omega arith) (omega arith) in
    let read = ap length c.readings.ensures
    ∙ length-map (others c.args.own (clocks_of lab)) (reading_of lab c.args.offsets.now c.args.shown.now c.args.own) in
    omega (arith, all, read, ap length c.deref.ensures.0)

-- the next offset is near enough to 0
pub advance-requires : goal.advance-requires
advance-requires c =
    let a = c.args in
    let limit : to_z w32 (of_z w32 c.limit.result) ≡ reading_limit (laboratory_of a.lab.now) =
    to_z-of_z w32 c.limit.result (record { sfits = c.limit.type_inv }) ∙ c.limit.ensures in
    let sum = sum_is (laboratory_of a.lab.now) a.offsets.now a.shown.now a.own c.from-at.result (to_z w32 (of_z w32 c.limit.result))
    c.correction-mean.result c.index.result.now c.requires.round c.requires.own (record {
      place = c.from-at.ensures;
      limit_is = limit;
      correction_is = c.correction-mean.ensures
          ∙ ap (correction_of (to_z w32 (of_z w32 c.limit.result)) a.lab.now.n) (c.deref.ensures.0 ∙ c.readings.ensures);
      drift_is = c.index.ensures;
    }) in
    let at_fits : SFits w64 (offset_of a.offsets.now c.from-at.result) = search rules in
    let drift_fits : SFits w32 c.index.result.now = search rules in
    let held = parts_held _ _ _ at_fits (record { sfits = c.correction-mean.type_inv }) drift_fits in
    sum_fits _ _ (held ∙ sum.0) sum.1

pub returns : goal.returns
returns c =
    let a = c.args in
    let limit : to_z w32 (of_z w32 c.limit.result) ≡ reading_limit (laboratory_of a.lab.now) =
    to_z-of_z w32 c.limit.result (record { sfits = c.limit.type_inv }) ∙ c.limit.ensures in
    let sum = sum_is (laboratory_of a.lab.now) a.offsets.now a.shown.now a.own c.from-at.result (to_z w32 (of_z w32 c.limit.result))
    c.correction-mean.result c.index.result.now c.requires.round c.requires.own (record {
      place = c.from-at.ensures;
      limit_is = limit;
      correction_is = c.correction-mean.ensures
          ∙ ap (correction_of (to_z w32 (of_z w32 c.limit.result)) a.lab.now.n) (c.deref.ensures.0 ∙ c.readings.ensures);
      drift_is = c.index.ensures;
    }) in
    let at_fits : SFits w64 (offset_of a.offsets.now c.from-at.result) = search rules in
    let drift_fits : SFits w32 c.index.result.now = search rules in
    let held = parts_held _ _ _ at_fits (record { sfits = c.correction-mean.type_inv }) drift_fits in
    to_z-of_z w64 c.advance.result (record { sfits = c.advance.type_inv }) ∙ c.advance.ensures ∙ held ∙ sum.0
