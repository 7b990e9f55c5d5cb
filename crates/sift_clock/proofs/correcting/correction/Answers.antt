use Rattle.std.proofs.Common.{◌≡◌, ℕ, ℤ, pos, take_all, None, add-one, arith, ◌∙◌, w32, w64, to_z, of_z}
use Rattle.std.proofs.lemmas.Int.{ints, to_z-of_z}
use Rattle.sift_clock.specs.Correction.{counted, correction_of, counted_sum}
use Rattle.sift_clock.proofs.Sums.{int_sum-take_suc}
use Rattle.sift_clock.proofs.correcting.correction.Goals as goal

-- one reading more is summed, and it is a number of 32 bits
pub loop-reading-preserved : goal.loop-reading-preserved
loop-reading-preserved c =
    let at : ℕ = c.loop-reading.reading-index in
    let limit : ℤ = to_z w32 (of_z w32 c.args.limit) in
    let more = int_sum-take_suc (counted limit) c.args.readings.now at None (omega arith) in
    record {
      summed = rw add-one (omega (arith, ints, more, c.counted.ensures, c.loop-reading.invariant.summed));
      small = omega (arith, ints, c.loop-reading.invariant.small);
    }

-- all readings are summed
pub returns : goal.returns
returns c =
    let readings = c.args.readings.now in
    let seen_all = take_all c.loop-reading.reading-index readings (omega arith) in
    let sum : to_z w64 c.loop-reading.sum-bits ≡ counted_sum c.args.limit readings =
    c.loop-reading.invariant.summed ∙ rw (to_z-of_z w32 c.args.limit c.ranges.limit, seen_all) in
    let clocks : to_z w64 (of_z w64 c.from.result) ≡ pos c.args.n = omega (arith, ints) in
    let quotient : c.div_euclid.result ≡ correction_of c.args.limit c.args.n readings =
    c.div_euclid.ensures ∙ rw (sum, clocks) in
    omega (arith, ints, quotient)
