-- What holds of a board that flies or has turned, and of one that is new.
use Rattle.std.specs.Prelude.{◌≡◌, ◌⊎◌, ℕ, ◌+◌, ◌*◌, ◌-◌, ◌<◌, ◌≤◌, Bool, true, false, Some, None}
use Rattle.sift_buffer.specs.Conduct.{never}
use Rattle.sift_buffer.specs.Conduct.{Conduct as Acts}
use Rattle.sift_mission.specs.Data.{FlownMission}
use Rattle.sift_unit.specs.Desk.{Desk, cursor}
use Rattle.sift_unit.specs.Going.{Going}

-- the same acts, as if the unit flew at this progress
abbrev pub as_flying : Acts → ℕ → Acts
as_flying c n = record c { progress = n; left = never }

-- a unit that is stray from its frame on has turned in place of entering that frame; its acts are those of a unit that flies
pub record Turned (m : FlownMission) (b : Desk) (c : Acts) : Type 0 where
  pub storm : m.storm b.unit ≡ Some b.frame
  pub at : cursor b ≡ 0
  pub left : c.left ≡ b.frame * m.period - 1
  pub progress : c.progress ≡ never
  pub going : Going m b (as_flying c (b.frame * m.period + b.subframe))

-- a unit that flies has not come to the frame from which on it is stray; one that is stray from frame 0 on may stand before anything else
pub record Flying (m : FlownMission) (b : Desk) (c : Acts) : Type 0 where
  pub before : (from : ℕ) → m.storm b.unit ≡ Some from → (b.frame < from) ⊎ ((from ≡ 0) × (b.frame ≡ 0) × (cursor b ≡ 0))
  pub going : Going m b c

-- a board that has kept to its conduct, and flies or has turned
abbrev pub Keeps : FlownMission → Desk → Acts → Type 0
Keeps m b c = Flying m b c ⊎ Turned m b c

-- one that has turned, or flies, as a mark says
abbrev pub KeepsAs : FlownMission → Bool → Desk → Acts → Type 0
KeepsAs m true b c = Turned m b c
KeepsAs m false b c = Flying m b c

-- the frame from which on its unit is stray, if there is one, is later than its own
abbrev pub IsEarly : FlownMission → Desk → Type 0
IsEarly m b = (from : ℕ) → m.storm b.unit ≡ Some from → b.frame < from

-- its unit has ended n frames, or has turned before
abbrev pub HasFlown : FlownMission → Desk → Acts → ℕ → Type 0
HasFlown m b c n = (n ≤ b.frame) ⊎ Turned m b c

-- nothing was done yet
pub record IsFresh (c : Acts) : Type 0 where
  pub progress : c.progress ≡ 0
  pub left : c.left ≡ never
  pub said : (f k q : ℕ) → c.said f k q ≡ None
  pub heard : (f k p : ℕ) → c.heard f k p ≡ None
