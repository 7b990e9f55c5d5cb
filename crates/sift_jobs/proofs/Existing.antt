-- Each mission has a flight, and so a reply of `votes` and of `trial`.
use Rattle.std.proofs.Common.{inl, refl}
use Rattle.sift_flight.specs.Existence.{EachMissionHasARoundFlight}
use Rattle.sift_flight.specs.Flight.{Strays}
use Rattle.sift_gen.specs.Scenario.{tree_of}
use Rattle.sift_mission.specs.Data.{MissionData}
use Rattle.sift_mission.specs.Flown.{flown}
use Rattle.sift_mission.specs.Premises.{PartsMakeItFlyable}
use Rattle.sift_reply.specs.Reply.{done}
use Rattle.sift_report.specs.Sheet.{end_of}
use Rattle.sift_report.specs.Votes.{votes_of}
use Rattle.sift_scenario.specs.Laws.{StatedMissionsFit}
use Rattle.sift_trial.specs.Laws.{DrawnTreesAreMissions}
use Rattle.sift_jobs.specs.Existence.{MissionsHaveFlights, VotesAreThere, TrialsAreThere}

module _ (given : MissionData → Strays → Type 0) (flies : PartsMakeItFlyable) (round : EachMissionHasARoundFlight) where
  -- a mission whose parts fit has a flight over any strays that rogues may give
  pub flights : MissionsHaveFlights given
  flights mission strays fits may =
      let found = round (flown mission) strays (flies mission fits).0.fits in
      (found.0, record { strays = strays; given_are = may; round = found.1 })

  -- `votes` has a reply to bytes that state a mission, where rogues may give it some strays
  pub votes_there : StatedMissionsFit → VotesAreThere given
  votes_there fit job bytes mission strays stated may =
      let found = flights mission strays (fit stated.0 mission stated.2) may in
      let text = votes_of mission found.0 in
      (done text, inl (mission, stated, (text, (found.0, record { over = found.1; by = tt }, refl), refl)))

  -- `trial` has a reply for each number, where rogues may give some strays to the mission that is drawn by it
  pub trials_there : StatedMissionsFit → DrawnTreesAreMissions → TrialsAreThere given
  trials_there fit drawn job may =
      let (mission, states) = drawn job.number in
      let (strays, are) = may mission states in
      let found = flights mission strays (fit (tree_of job.number) mission states) are in
      let text = end_of (flown mission) found.0 in
      (done text, (mission, states, (text, (found.0, record { over = found.1; by = tt }, refl), refl)))
