-- What the laws of flights say of a round flight of a mission whose parts fit.
use Rattle.std.proofs.Common.{◌≡◌, ℕ, ◌<◌}
use Rattle.sift_mission.specs.Data.{MissionData}
use Rattle.sift_mission.specs.Flown.{flown}
use Rattle.sift_mission.specs.PartsFit.{PartsFit}
use Rattle.sift_mission.specs.Premises.{IsFlyable, PartsMakeItFlyable}
use Rattle.sift_flight.specs.Figures.{HasMarginAt, Works, MarginIsTold, SkewIsTold, SlackIsTold}
use Rattle.sift_flight.specs.Flight.{Flight, config_of, Strays, IsRound}
use Rattle.sift_flight.specs.Headline.{Headline, HeadlineHolds}
use Rattle.sift_flight.specs.Told.{AreAccountsOf}
use Rattle.sift_flight.specs.Whole.{RoundFlightsHaveAccounts}

-- the mission can be flown, its first configurations have all units, and accounts, frames with margin and figures are as the laws say
pub record HasLaws (d : MissionData) (fl : Flight) : Type 0 where
  pub flyable : IsFlyable (flown d)
  pub begins : (u : ℕ) → 0 < d.frames → Works (flown d) u 0 → config_of fl u 0 ≡ (flown d).units
  pub accounts : AreAccountsOf (flown d) fl
  pub headline : (f : ℕ) → f < d.frames → HasMarginAt (flown d) fl f → Headline (flown d) d.program fl f
  pub margin : MarginIsTold
  pub skew : SkewIsTold
  pub slack : SlackIsTold

-- where its parts fit a mission can be flown, and configurations at the start, accounts, frames with margin and figures of its round flight are as the
-- laws say
pub round_flight_has_laws : PartsMakeItFlyable → HeadlineHolds → RoundFlightsHaveAccounts → MarginIsTold → SkewIsTold → SlackIsTold
    → (d : MissionData) (s : Strays) (fl : Flight) → PartsFit d → IsRound (flown d) s fl → HasLaws d fl
round_flight_has_laws flies holds accounts margin skew slack d s fl fits round =
    let flyable = (flies d fits).0 in
    record {
      flyable = flyable;
      begins = λ u some w. ((round 0 some).conduct u (record { unit = w.unit; whole = flyable.script.whole u 0 w.works })).begins.0;
      accounts = accounts (flown d) s fl flyable round;
      headline = holds (flown d) d.program s fl flyable (flies d fits).1 round;
      margin = margin;
      skew = skew;
      slack = slack;
    }
