-- How far the next offset is from the own one.
use Rattle.std.proofs.Common.{◌≡◌, ℕ, List, true, Option, ℤ, pos, ◌+ℤ◌, arith}
use Rattle.std.proofs.lemmas.Int.{ints}
use Rattle.sift_base.specs.Units.{has}
use Rattle.sift_clock.specs.Distance.{IsWithin}
use Rattle.sift_clock.specs.Correction.{corrected_offset}
use Rattle.sift_skew.specs.Leading.{OffsetsChangeLittle}
use Rattle.sift_mission.specs.Data.{FlownMission}
use Rattle.sift_mission.specs.Fits.{Fits, change_limit}

module _ (m : FlownMission) (fit : Fits m) (little : OffsetsChangeLittle) (us : List ℕ) (read : ℕ → Option ℤ) (own : ℤ) (u : ℕ)
    (member : has us u ≡ true) (unit : has m.units u ≡ true) where
  -- the next offset is not far from the own one, whatever is read
  pub next_little : IsWithin (pos change_limit) (corrected_offset (m.skew +ℤ m.error) us read own u +ℤ m.drift u) own
  next_little =
      let change = little (m.skew +ℤ m.error) m.rate us read own (m.drift u) u member fit.clocks.limit (fit.clocks.drifts u unit) in
      let most = fit.clocks.change in
      (omega (arith, ints), omega (arith, ints))
