-- The offsets of working clocks are kept, round by round.
use Rattle.std.proofs.Common.{◌≡◌, ℕ, zero, suc, ◌+◌, ◌*◌, ◌<◌, ◌≤◌, List, [], ◌∷◌, length, get_or, ℤ, pos, Option, arith}
use Rattle.std.specs.List.{All}
use Rattle.std.proofs.lemmas.Int.{ints}
use Rattle.std.proofs.lemmas.Bool.{lt-ltb, ltb-true}
use Rattle.std.proofs.lemmas.List.FromFn.{length-map-range_with_len, length-range_with_len, get_or-map-range_with_len}
use Rattle.sift_base.specs.laws.Ranges.{has-range}
use Rattle.sift_clock.specs.Distance.{IsWithin}
use Rattle.sift_skew.specs.Keeping.{AreWithin}
use Rattle.sift_skew.proofs.lemmas.Keeps.{skew_is_kept}
use Rattle.sift_skew.proofs.lemmas.Changes.{offsets_change_little}
use Rattle.sift_clocklab.specs.Laboratory.{Laboratory, clocks_of, working_of, works, drift_of, noise_of, reading_limit}
use Rattle.sift_clocklab.specs.Conditions.{AreOfClocks, AreTicks, AreTogether, IsReady}
use Rattle.sift_clocklab.specs.Rounds.{offset_of, ticks_ahead, reading_of, offset_after, offsets_after, offsets_from}
use Rattle.sift_clocklab.specs.Skew.{AreKept, OffsetsAreKept}
use Rattle.sift_clocklab.proofs.Clocks.{few_faulty}

-- the number of a working clock is as near as all are
pub near_of : (lab : Laboratory) (far : ℤ) (numbers : List ℤ) (q : ℕ) → AreOfClocks lab far numbers → q < working_of lab
    → IsWithin far (get_or numbers q (pos 0)) (pos 0)
near_of lab far numbers q of_clocks low = of_clocks.near q (pos 0) (omega (arith, of_clocks.each))

-- so is the noise of its reading of another
pub noise_near : (lab : Laboratory) (q p : ℕ) → IsReady lab → q < working_of lab → p < working_of lab
    → IsWithin lab.error (noise_of lab q p) (pos 0)
noise_near lab q p ready q_low p_low =
    near_of lab lab.error (get_or lab.noise q []) p (ready.noise q [] (omega (arith, ready.noise_of_each))) p_low

-- two working clocks that are kept are no farther apart than the skew
pub apart_near : (lab : Laboratory) (far : ℕ) (offsets : List ℤ) (q p : ℕ) → AreKept lab far offsets
    → q < working_of lab → p < working_of lab
    → IsWithin lab.skew (offset_of offsets p) (offset_of offsets q)
apart_near lab far offsets q p kept q_low p_low = (kept.together p q p_low q_low, kept.together q p q_low p_low)

-- what a pair of working clocks differs by, and by how much one misreads the other
pub record AreNear (lab : Laboratory) (offsets : List ℤ) (q p : ℕ) : Type 0 where
  pub apart : IsWithin lab.skew (offset_of offsets p) (offset_of offsets q)
  pub misread : IsWithin lab.error (noise_of lab q p) (pos 0)
  pub small_skew : AreTicks lab.skew
  pub small_error : AreTicks lab.error

-- they are near, where the clocks are kept
pub are_near : (lab : Laboratory) (far : ℕ) (offsets : List ℤ) (q p : ℕ) → IsReady lab → AreKept lab far offsets
    → q < working_of lab → p < working_of lab → AreNear lab offsets q p
are_near lab far offsets q p ready kept q_low p_low = record {
  apart = apart_near lab far offsets q p kept q_low p_low;
  misread = noise_near lab q p ready q_low p_low;
  small_skew = ready.in_range.small_skew;
  small_error = ready.in_range.small_error;
}

-- the offset of a working clock after a round is the one that it comes to
pub offset-after : (lab : Laboratory) (offsets : List ℤ) (shown : List (Option ℤ)) (q : ℕ) → q < working_of lab
    → offset_of (offsets_after lab offsets shown) q ≡ offset_after lab offsets shown q
offset-after lab offsets shown q low =
    get_or-map-range_with_len (offset_after lab offsets shown) 0 (working_of lab) q q (pos 0) low (omega arith)

-- clocks that are kept are within the limits of their laboratory
within : (lab : Laboratory) (far : ℕ) (offsets : List ℤ) (shown : List (Option ℤ)) → IsReady lab
    → AreKept lab far offsets
    → AreWithin lab.skew lab.error lab.rate (clocks_of lab) (works lab) (offset_of offsets) (drift_of lab) (reading_of lab offsets shown)
within lab far offsets shown ready kept = record {
  together = λ p q p_in p_works q_in q_works.
      kept.together p q (ltb-true p (working_of lab) p_works) (ltb-true q (working_of lab) q_works);
  readings = λ u u_in u_works v v_in v_works differ.
      let noise = noise_near lab u v ready (ltb-true u (working_of lab) u_works) (ltb-true v (working_of lab) v_works) in
      (ticks_ahead lab offsets u v, rw v_works, (omega (arith, ints, noise.0, noise.1), omega (arith, ints, noise.0, noise.1)));
  drifts = λ u u_in u_works. near_of lab lab.rate lab.drift u ready.drift (ltb-true u (working_of lab) u_works);
}

-- so two of them are at most the skew apart after a round too
together_after : (lab : Laboratory) (far : ℕ) (offsets : List ℤ) (shown : List (Option ℤ)) → IsReady lab
    → AreKept lab far offsets
    → AreTogether lab (offsets_after lab offsets shown)
together_after lab far offsets shown ready kept p q p_low q_low =
    rw (offset-after lab offsets shown p p_low, offset-after lab offsets shown q q_low)
    (skew_is_kept lab.skew lab.error lab.rate (clocks_of lab) (works lab) (offset_of offsets) (drift_of lab) (reading_of lab offsets shown)
    lab.m (within lab far offsets shown ready kept) (few_faulty lab ready.admitted)
    (let room = ready.admitted.room in rw (length-range_with_len 0 lab.n) room)
    p q (has-range 0 lab.n p (omega arith) (omega arith)) (lt-ltb p (working_of lab) p_low)
    (has-range 0 lab.n q (omega arith) (omega arith)) (lt-ltb q (working_of lab) q_low))

-- and each moves by no more than a skew, an error and a drift
pub near_after : (lab : Laboratory) (far : ℕ) (offsets : List ℤ) (shown : List (Option ℤ)) (q : ℕ) → IsReady lab
    → AreKept lab far offsets
    → q < working_of lab → IsWithin (pos (far + 24000)) (offset_after lab offsets shown q) (pos 0)
near_after lab far offsets shown q ready kept low =
    let before = near_of lab (pos far) offsets q kept.of_clocks low in
    let drift = near_of lab lab.rate lab.drift q ready.drift low in
    let sizes = ready.in_range in
    let moves = offsets_change_little (reading_limit lab) lab.rate (clocks_of lab) (reading_of lab offsets shown q) (offset_of offsets q)
    (drift_of lab q) q (has-range 0 lab.n q (omega arith) (omega arith))
    (omega (arith, ints, sizes.small_skew, sizes.small_error)) drift in (
      omega (arith, ints, before, moves, sizes.small_skew, sizes.small_error, sizes.small_rate),
      omega (arith, ints, before, moves, sizes.small_skew, sizes.small_error, sizes.small_rate),
    )

-- the offsets after a round are kept
pub kept_after : (lab : Laboratory) (far : ℕ) (offsets : List ℤ) (shown : List (Option ℤ)) → IsReady lab
    → AreKept lab far offsets
    → AreKept lab (far + 24000) (offsets_after lab offsets shown)
kept_after lab far offsets shown ready kept = record {
  together = together_after lab far offsets shown ready kept;
  of_clocks = record {
    each = length-map-range_with_len (offset_after lab offsets shown) 0 (working_of lab);
    near = λ q d below.
        let low : q < working_of lab =
        omega (arith, below, length-map-range_with_len (offset_after lab offsets shown) 0 (working_of lab)) in
        rw (get_or-map-range_with_len (offset_after lab offsets shown) 0 (working_of lab) q q d low (omega arith))
        (near_after lab far offsets shown q ready kept low);
  };
}

-- what is kept within some distance is kept within a greater one
pub kept_farther : (lab : Laboratory) (far farther : ℕ) (offsets : List ℤ) → far ≤ farther → AreKept lab far offsets
    → AreKept lab farther offsets
kept_farther lab far farther offsets more kept = record {
  together = kept.together;
  of_clocks = record {
    each = kept.of_clocks.each;
    near = λ q d below. let near = kept.of_clocks.near q d below in (omega (arith, ints, near), omega (arith, ints, near));
  };
}

-- from offsets that are kept on all are
all_kept : (lab : Laboratory) (shown : List (List (Option ℤ))) (far : ℕ) (offsets : List ℤ) → IsReady lab
    → AreKept lab far offsets
    → All (AreKept lab (far + length shown * 24000)) (offsets_from lab offsets shown)
all_kept lab [] far offsets ready kept zero d below = kept_farther lab far (far + 0 * 24000) offsets (omega arith) kept
all_kept lab [] far offsets ready kept (suc k) d below = absurd (omega arith)
all_kept lab (readings ∷ rounds) far offsets ready kept zero d below =
    kept_farther lab far (far + suc (length rounds) * 24000) offsets (omega arith) kept
all_kept lab (readings ∷ rounds) far offsets ready kept (suc k) d below =
    kept_farther lab (far + 24000 + length rounds * 24000) (far + suc (length rounds) * 24000)
    (get_or (offsets_from lab (offsets_after lab offsets readings) rounds) k d) (omega arith)
    (all_kept lab rounds (far + 24000) (offsets_after lab offsets readings) ready (kept_after lab far offsets readings ready kept) k d
    (omega arith))

-- the starts are kept
pub starts_kept : (lab : Laboratory) → IsReady lab → AreKept lab 8000 lab.start
starts_kept lab ready = record { together = ready.together; of_clocks = ready.start }

-- in each round of a laboratory that can be run, whatever is shown, working clocks are at most the skew apart, and none is farther from 0 than the
-- rounds let it
pub offsets_are_kept : OffsetsAreKept
offsets_are_kept lab shown ready = all_kept lab shown 8000 lab.start ready (starts_kept lab ready)
