-- When a unit may say, hear, enter, turn and stray. Each unit asks its own conduct alone.
use Rattle.std.specs.Prelude.{◌≡◌, ◌≢◌, ℕ, ◌+◌, ◌<◌, ◌≤◌, Option, Some, None}
use Rattle.sift_buffer.specs.Ranges.{Ranges, IsCell, IsPlace}
use Rattle.sift_buffer.specs.Conduct.{Conduct, saying, never, last_progress}

-- u may say in slot k to q, in frame f and with stamp s: it has not turned, the stamp is its progress plus one,
-- and neither frame nor stamp was used for this cell
pub record MaySay (r : Ranges) (d : Conduct) (u q k f s : ℕ) : Type 0 where
  pub flies : d.left ≡ never
  pub place : IsPlace r u q k f
  pub stamp : s ≡ d.progress + 1
  pub frame : d.said f k q ≡ None
  pub fresh : (f' s' : ℕ) (w : Option ℕ) → d.said f' k q ≡ Some (saying s' w) → s' ≢ s

-- u may hear in slot k from p, in frame f and by stamp s: it has not turned, the stamp is 1 or more and below its progress,
-- and the frame was not used for this cell
pub record MayHear (r : Ranges) (d : Conduct) (u p k f s : ℕ) : Type 0 where
  pub flies : d.left ≡ never
  pub place : IsPlace r u p k f
  pub stamp : (1 ≤ s) × (s + 1 ≤ d.progress)
  pub frame : d.heard f k p ≡ None

-- a unit may try to enter: it has not turned, and there is a subframe more
pub record MayEnter (d : Conduct) : Type 0 where
  pub flies : d.left ≡ never
  pub below : d.progress < last_progress

-- a unit may try to turn: it has not turned
abbrev pub MayTurn : Conduct → Type 0
MayTurn d = d.left ≡ never

-- u may store a stray to q in slot k: it has turned
pub record MayStray (r : Ranges) (d : Conduct) (u q k : ℕ) : Type 0 where
  pub turned : d.left < never
  pub cell : IsCell r u q k

-- the gate: u has seen each other unit at its own progress or more
abbrev pub PassesGate : Ranges → Conduct → ℕ → Type 0
PassesGate r d u = (p : ℕ) → p < r.units → p ≢ u → d.progress ≤ d.seen p
