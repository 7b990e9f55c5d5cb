-- Two flights that tell the same.
use Rattle.std.specs.Prelude.{◌≡◌, ℕ, ◌<◌, ◌≤◌, true}
use Rattle.sift_base.specs.Units.{has}
use Rattle.sift_mission.specs.Data.{FlownMission}
use Rattle.sift_mission.specs.Premises.{IsFlyable}
use Rattle.sift_flight.specs.Flight.{Flight, Strays, AreSameAt, HasNoStorms, IsRound}
use Rattle.sift_flight.specs.Figures.{config_at, margin_at, next_offsets_at, offsets_at, skew_of, slack_of}

-- what two flights tell of a whole frame is the same
pub record AreSameFrame (m : FlownMission) (fl gl : Flight) (f : ℕ) : Type 0 where
  pub margin : margin_at m fl f ≡ margin_at m gl f
  pub skew : skew_of (offsets_at m fl f) ≡ skew_of (offsets_at m gl f)
  pub slack : slack_of m.length (offsets_at m fl f) (next_offsets_at m fl f) ≡ slack_of m.length (offsets_at m gl f) (next_offsets_at m gl f)

-- two flights tell the same: of each unit in each frame, of each frame, and of the configuration at each
pub record AreAlike (m : FlownMission) (fl gl : Flight) : Type 0 where
  pub units : (u f : ℕ) → has m.units u ≡ true → f < m.frames → AreSameAt fl gl u f
  pub frames : (f : ℕ) → f < m.frames → AreSameFrame m fl gl f
  pub config : (f : ℕ) → f ≤ m.frames → config_at m fl f ≡ config_at m gl f

-- two round flights of a mission without storms tell the same
abbrev pub RoundFlightsAreAlike : Type 0
RoundFlightsAreAlike = (m : FlownMission) (strays strays' : Strays) (fl gl : Flight) → IsFlyable m → HasNoStorms m → 0 < m.frames →
    IsRound m strays fl → IsRound m strays' gl → AreAlike m fl gl
