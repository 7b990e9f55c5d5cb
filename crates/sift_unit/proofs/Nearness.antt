-- How far from 0 clocks may be, from frame to frame.
use Rattle.std.proofs.Common.{◌≡◌, ℕ, ◌+◌, ◌≤◌, List, true, Option, ℤ, pos, ◌+ℤ◌, arith}
use Rattle.std.proofs.lemmas.Int.{ints}
use Rattle.sift_base.specs.Units.{has}
use Rattle.sift_clock.specs.Distance.{IsWithin}
use Rattle.sift_clock.specs.Correction.{corrected_offset}
use Rattle.sift_skew.specs.Limits.{offset_limit}
use Rattle.sift_skew.specs.Leading.{OffsetsChangeLittle}
use Rattle.sift_mission.specs.Data.{FlownMission}
use Rattle.sift_mission.specs.Fits.{Fits, change_limit}
use Rattle.sift_mission.specs.PartsFit.{start_limit}
use Rattle.sift_mission.specs.laws.Offsets.{next_little}
use Rattle.sift_unit.specs.Reach.{IsNearIn}

-- at the start a clock is near enough
pub near_start : (clk : ℤ) → IsWithin start_limit clk (pos 0) → IsNearIn 0 clk
near_start clk near = near

-- what is near enough in a frame is so in the next
pub near_still : (f : ℕ) (clk : ℤ) → IsNearIn f clk → IsNearIn (f + 1) clk
near_still f clk near = (omega (arith, ints), omega (arith, ints))

-- and in all frames of a mission it is no farther than figures are told of
pub near_enough : (f : ℕ) (clk : ℤ) → f ≤ 1000 → IsNearIn f clk → IsWithin offset_limit clk (pos 0)
near_enough f clk low near = (omega (arith, ints), omega (arith, ints))

-- what is no farther from a near clock than it may change is near in the next frame
near_moved : (f : ℕ) (clk clk' : ℤ) → IsNearIn f clk → IsWithin (pos change_limit) clk' clk → IsNearIn (f + 1) clk'
near_moved f clk clk' near change = (omega (arith, ints), omega (arith, ints))

module _ (m : FlownMission) (fit : Fits m) (little : OffsetsChangeLittle) (us : List ℕ) (read : ℕ → Option ℤ) (own : ℤ) (u : ℕ)
    (member : has us u ≡ true) (unit : has m.units u ≡ true) where
  -- from a near offset the next one is near enough in the next frame
  pub next_near : (f : ℕ) → IsNearIn f own → IsNearIn (f + 1) (corrected_offset (m.skew +ℤ m.error) us read own u +ℤ m.drift u)
  next_near f near = near_moved f own (corrected_offset (m.skew +ℤ m.error) us read own u +ℤ m.drift u) near (next_little m fit little us read own u member unit)
