-- The sum that the code makes of the own offset, a mean and a drift is the next offset.
use Rattle.std.proofs.Common.{◌≡◌, ℕ, List, length, map, true, Option, sym, ap, ◌∙◌, ℤ, pos, ◌+ℤ◌, arith, w32, w64, to_z, of_z, FitsSigned}
use Rattle.std.proofs.lemmas.Int.{ints}
use Rattle.sift_base.specs.Units.{has, others}
use Rattle.sift_clock.specs.Distance.{IsWithin}
use Rattle.sift_clock.specs.Correction.{correction_of, corrected_offset}
use Rattle.sift_skew.specs.Limits.{offset_limit}
use Rattle.sift_skew.specs.Leading.{OffsetsChangeLittle}
use Rattle.sift_mission.specs.Data.{FlownMission}
use Rattle.sift_mission.specs.Fits.{Fits, change_limit}
use Rattle.sift_mission.specs.laws.Offsets.{next_little}

-- the sum of an offset, a mean and a drift, where the sum is near the offset and the drift is small: its parts are held in variables
advanced : (next own mean drift : ℤ) → next ≡ own +ℤ mean +ℤ drift → IsWithin offset_limit own (pos 0) → IsWithin (pos change_limit) next own
    → IsWithin (pos change_limit) drift (pos 0) → to_z w64 (of_z w64 own) +ℤ to_z w64 (of_z w64 mean) +ℤ to_z w32 (of_z w32 drift) ≡ next
advanced next own mean drift is near change small = omega (arith, ints)

-- such a sum fits
pub advanced_fits : (next own : ℤ) → IsWithin offset_limit own (pos 0) → IsWithin (pos change_limit) next own → FitsSigned w64 next
advanced_fits next own near change = omega (arith, ints)

module _ (m : FlownMission) (fit : Fits m) (little : OffsetsChangeLittle) (us : List ℕ) (read : ℕ → Option ℤ) (own : ℤ) (u : ℕ)
    (member : has us u ≡ true) (unit : has m.units u ≡ true) where
  -- the drift is small
  drift_small : IsWithin (pos change_limit) (m.drift u) (pos 0)
  drift_small =
      let drift = fit.clocks.drifts u unit in let limit = fit.clocks.limit in let most = fit.clocks.change in
      (omega (arith, ints), omega (arith, ints))

  -- and so is the limit of readings, as a variable holds it
  limit_held : to_z w32 (of_z w32 (m.skew +ℤ m.error)) ≡ m.skew +ℤ m.error
  limit_held = let drift = fit.clocks.drifts u unit in let limit = fit.clocks.limit in let most = fit.clocks.change in omega (arith, ints)

  -- the sum that the code makes of the mean of the readings is the next offset
  pub offset_sum : (mean drift limit : ℤ) (readings : List (Option ℤ)) (n : ℕ) → IsWithin offset_limit own (pos 0) →
      readings ≡ map read (others u us) → n ≡ length us → limit ≡ m.skew +ℤ m.error → mean ≡ correction_of (to_z w32 (of_z w32 limit)) n readings →
      drift ≡ m.drift u →
      to_z w64 (of_z w64 own) +ℤ to_z w64 (of_z w64 mean) +ℤ to_z w32 (of_z w32 drift) ≡ corrected_offset (m.skew +ℤ m.error) us read own u +ℤ m.drift u
  offset_sum mean drift limit readings n near list size is total drifts =
      let held : to_z w32 (of_z w32 limit) ≡ m.skew +ℤ m.error = ap (λ x. to_z w32 (of_z w32 x)) is ∙ limit_held in
      let mean_is : mean ≡ correction_of (m.skew +ℤ m.error) (length us) (map read (others u us)) = total ∙ (λ i. correction_of (held i) (size i) (list i)) in
      advanced (corrected_offset (m.skew +ℤ m.error) us read own u +ℤ m.drift u) own mean drift
      (λ i. own +ℤ sym mean_is i +ℤ sym drifts i) near (next_little m fit little us read own u member unit) (rw drifts drift_small)
