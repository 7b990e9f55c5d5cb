-- The figures of a frame's clocks: how far offsets are apart, and how much of a subframe is left between them.
use Rattle.std.specs.Prelude.{◌≡◌, ℤ, pos, ◌-ℤ◌, ◌≤ℤ◌, List, ◌++◌, length}
use Rattle.std.specs.List.{All, Contains}
use Rattle.sift_clock.specs.Distance.{IsWithin}
use Rattle.sift_skew.specs.Limits.{offset_limit}

-- each of the offsets is one of which figures are told
abbrev pub AreInRange : List ℤ → Type 0
AreInRange offsets = All (λ offset. IsWithin offset_limit offset (pos 0)) offsets

-- one offset in force in the frame and one in force after it for each clock
abbrev pub ArePaired : List ℤ → List ℤ → Type 0
ArePaired now next = length now ≡ length next

-- one of the offsets, and none of them is above it
pub record IsHighest (offsets : List ℤ) (highest : ℤ) : Type 0 where
  pub among : Contains offsets highest
  pub above : All (λ offset. offset ≤ℤ highest) offsets

-- one of the offsets, and none of them is below it
pub record IsLowest (offsets : List ℤ) (lowest : ℤ) : Type 0 where
  pub among : Contains offsets lowest
  pub below : All (λ offset. lowest ≤ℤ offset) offsets

-- the skew of these offsets: two of them differ by so much, and no two by more
pub record IsSkew (offsets : List ℤ) (skew : ℤ) : Type 0 where
  pub attained : (p : ℤ) × (q : ℤ) × Contains offsets p × Contains offsets q × (skew ≡ p -ℤ q)
  pub largest : (p q : ℤ) → Contains offsets p → Contains offsets q → (p -ℤ q) ≤ℤ skew

-- how long after a clock with offset p enters a subframe a clock with offset q enters the next one
abbrev pub lead_left : ℤ → ℤ → ℤ → ℤ
lead_left length p q = length -ℤ (q -ℤ p)

-- the slack of a frame with these offsets, and those in force after it: it is left between two clocks, the first with its
-- offset in this frame, the second with that or the next, and nowhere is less left
pub record IsSlack (length : ℤ) (now next : List ℤ) (slack : ℤ) : Type 0 where
  pub attained : (p : ℤ) × (q : ℤ) × Contains now p × Contains (now ++ next) q × (slack ≡ lead_left length p q)
  pub least : (p q : ℤ) → Contains now p → Contains (now ++ next) q → slack ≤ℤ lead_left length p q
