-- How far from 0 the clock of a unit may be.
use Rattle.std.specs.Prelude.{ℕ, ◌+◌, ◌*◌, ℤ, pos, ◌+ℤ◌}
use Rattle.sift_clock.specs.Distance.{IsWithin}
use Rattle.sift_conduct.specs.Conduct.{Account}
use Rattle.sift_mission.specs.Fits.{change_limit}
use Rattle.sift_mission.specs.PartsFit.{start_limit}

-- how far from 0 an offset is in a frame at most: so far at the start, and so much farther in each frame
abbrev pub reach : ℕ → ℤ
reach f = start_limit +ℤ pos (f * change_limit)

-- the offset is one that may be in a frame
abbrev pub IsNearIn : ℕ → ℤ → Type 0
IsNearIn f clk = IsWithin (reach f) clk (pos 0)

-- the offsets of an account are such as may be in its frame and in the next
pub record IsNear (f : ℕ) (a : Account) : Type 0 where
  pub clk : IsNearIn f a.clk
  pub next_clk : IsNearIn (f + 1) a.next_clk
