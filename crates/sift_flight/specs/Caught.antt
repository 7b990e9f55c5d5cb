-- What a lie costs, and what costs nothing: a working unit that is lied to catches the liar, whom two of them catch is out of the next
-- configuration, and who says its own words is caught by nobody.
use Rattle.std.specs.Prelude.{◌≡◌, ◌≢◌, ℕ, suc, ◌<◌, Bool, true, false}
use Rattle.sift_base.specs.Units.{has}
use Rattle.sift_exec.specs.Conviction.{has_kind, kinds_of}
use Rattle.sift_exec.specs.declared.catches.Kind.{Kind}
use Rattle.sift_mission.specs.Data.{FlownMission}
use Rattle.sift_mission.specs.Premises.{IsFlyable, RunsProgram}
use Rattle.sift_mission.specs.Slots.{has_turned}
use Rattle.sift_program.specs.Program.{ProgramTree}
use Rattle.sift_conduct.specs.Conduct.{Account, caught}
use Rattle.sift_flight.specs.Flight.{Flight, Strays, IsRound}
use Rattle.sift_flight.specs.Figures.{Works, config_at, HasMarginAt}
use Rattle.sift_flight.specs.Lies.{Known, IsLie, SaysItsOwn}

-- what a unit knows in a frame of a flight
abbrev pub known_at : Flight → (q f : ℕ) → Known
known_at fl q f = record { outputs = (fl.account q f).outs; clock = (fl.account q f).clk }

-- in a frame of a flight u lies to q in this way
abbrev pub LiesAt : FlownMission → Flight → (f u q : ℕ) → Kind → Type 0
LiesAt m fl f u q way = IsLie m (config_at m fl f) f u q (known_at fl q f) way

-- the unit was caught in this way
abbrev pub caught_in : Kind → Account → ℕ → Bool
caught_in way a v = has_kind (kinds_of a.bad v) way

-- the working unit to which u lies catches it, in this way; and where it lies to two of them, each in its way, it is out of the next configuration
pub record LiesCost (m : FlownMission) (fl : Flight) (f u : ℕ) : Type 0 where
  pub caught : (way : Kind) (q : ℕ) → Works m q f → LiesAt m fl f u q way → caught_in way (fl.account q f) u ≡ true
  pub out : (a b : Kind) (q r : ℕ) → Works m q f → Works m r f → q ≢ r → LiesAt m fl f u q a → LiesAt m fl f u r b
      → has (config_at m fl (suc f)) u ≡ false

-- what holds in each frame with margin of a round flight, of each unit of the configuration that hasn't turned
abbrev pub OfMembers : (FlownMission → Flight → (f u : ℕ) → Type 0) → Type 0
OfMembers Holds = (m : FlownMission) (program : ProgramTree) (strays : Strays) (fl : Flight) → IsFlyable m → RunsProgram m program → IsRound m strays fl →
    (f : ℕ) → f < m.frames → HasMarginAt m fl f →
    (u : ℕ) → has (config_at m fl f) u ≡ true → has_turned m u f ≡ false → Holds m fl f u

-- so lies cost there
abbrev pub LiarsAreOut : Type 0
LiarsAreOut = OfMembers LiesCost

-- and whoever says its own words there is caught by no working unit, whatever it said before
abbrev pub OwnWordsCostNothing : Type 0
OwnWordsCostNothing = OfMembers (λ m fl f u. SaysItsOwn m f u → (q : ℕ) → Works m q f → caught (fl.account q f) u ≡ false)
