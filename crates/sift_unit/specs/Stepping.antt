-- What a step of a board came to.
use Rattle.std.specs.Prelude.{◌≡◌, ◌⊎◌, ℕ, ◌<◌, ◌≤◌, Option, Some, None}
use Rattle.sift_buffer.specs.Conditions.{MayTurn}
use Rattle.sift_buffer.specs.Conduct.{never}
use Rattle.sift_buffer.specs.Views.{View, PortMaySay, PortMayHear, view_with_said, view_with_heard, EntersAfterLooks, FindsBehind, Turns}
use Rattle.sift_mission.specs.Data.{FlownMission}
use Rattle.sift_unit.specs.Desk.{Desk}
use Rattle.sift_unit.specs.Passing.{distance}
use Rattle.sift_unit.specs.declared.board.Stepped.{Stepped}
use Rattle.sift_unit.specs.declared.board.Stepped.TheVariants.{Moved, NotYet, Turned, Landed}

-- the one call that moved the unit: in its subframe it said one word that it had not said yet, or heard one that it had not heard yet, or it
-- entered the next subframe
pub data OneCall (b : Desk) (v : View) (b' : Desk) (v' : View) : Type 0 where
  said : (k q s : ℕ) (w : Option ℕ) → PortMaySay v q k b.frame s → v' ≡ view_with_said v b.frame k q s w → b'.subframe ≡ b.subframe → b'.frame ≡ b.frame
      → OneCall b v b' v'
  heard : (k p s : ℕ) (w : Option ℕ) → PortMayHear v p k b.frame s → v' ≡ view_with_heard v b.frame k p s w → b'.subframe ≡ b.subframe → b'.frame ≡ b.frame
      → OneCall b v b' v'
  entered : EntersAfterLooks v v' → OneCall b v b' v'

-- the unit moved: by one call, nearer to the flight's end, and not to it; and it flies
pub record HasMoved (m : FlownMission) (b : Desk) (v : View) (b' : Desk) (v' : View) : Type 0 where
  pub call : OneCall b v b' v'
  pub unfinished : b'.frame < m.frames
  pub nearer : distance m b' < distance m b
  pub flies : v'.conduct.left ≡ never

-- the unit stays in its subframe, since another was found behind it; and it flies
pub record HasWaited (m : FlownMission) (b : Desk) (v : View) (p n : ℕ) (b' : Desk) (v' : View) : Type 0 where
  pub behind : FindsBehind v p n v'
  pub frame : b'.frame ≡ b.frame
  pub subframe : b'.subframe ≡ b.subframe
  pub unfinished : b.frame < m.frames
  pub no_farther : distance m b' ≤ distance m b
  pub flies : v'.conduct.left ≡ never

-- the unit has turned in place of entering the frame at which its board now stands, from which on it is stray: before, and then nothing has
-- changed, or by this one call
pub record HasTurned (m : FlownMission) (b : Desk) (v : View) (b' : Desk) (v' : View) : Type 0 where
  pub storm : m.storm b'.unit ≡ Some b'.frame
  pub number : v'.conduct.progress ≡ never
  pub cause : ((b' ≡ b) × (v' ≡ v)) ⊎ (MayTurn v.conduct × Turns v v')
  pub no_farther : distance m b' ≤ distance m b

-- the unit has entered the end: before, and then nothing has changed, or by this one call; it flies, and has no storm
pub record HasLanded (m : FlownMission) (b : Desk) (v : View) (b' : Desk) (v' : View) : Type 0 where
  pub ended : b'.frame ≡ m.frames
  pub cause : ((b' ≡ b) × (v' ≡ v)) ⊎ ((b.frame < m.frames) × EntersAfterLooks v v')
  pub flies : v'.conduct.left ≡ never
  pub calm : m.storm b'.unit ≡ None

-- what the answer tells; stands says of a unit's number that it is now this one, where the port can tell
abbrev pub Steps : FlownMission → Desk → View → Stepped → Desk → View → (ℕ → ℕ → Type 0) → Type 0
Steps m b v Moved b' v' stands = HasMoved m b v b' v'
Steps m b v (NotYet p n) b' v' stands = HasWaited m b v p n b' v' × stands p n
Steps m b v Turned b' v' stands = HasTurned m b v b' v'
Steps m b v Landed b' v' stands = HasLanded m b v b' v'
