-- That there is what commands tell of: each mission has a flight over any strays that rogues may give.
use Rattle.std.specs.Prelude.{ℕ, List, []}
use Rattle.sift_flight.specs.Flight.{Flight, Strays}
use Rattle.sift_gen.specs.Scenario.{tree_of}
use Rattle.sift_load.specs.Loads.{LoadsThen, States}
use Rattle.sift_mission.specs.Data.{MissionData}
use Rattle.sift_mission.specs.PartsFit.{PartsFit}
use Rattle.sift_reply.specs.Reply.{Reply}
use Rattle.sift_scenario.specs.Mission.{IsMission}
use Rattle.sift_jobs.specs.Flights.{IsFlightOf, freely}
use Rattle.sift_jobs.specs.Trial.{trial_duty}
use Rattle.sift_jobs.specs.Votes.{VotesGives}
use Rattle.sift_jobs.specs.declared.trial.TrialJob.{TrialJob}
use Rattle.sift_jobs.specs.declared.votes.VotesJob.{VotesJob}

module _ (given : MissionData → Strays → Type 0) where
  -- a mission whose parts fit has a flight over any strays that rogues may give
  abbrev pub MissionsHaveFlights : Type 0
  MissionsHaveFlights = (mission : MissionData) (strays : Strays) → PartsFit mission → given mission strays → (flight : Flight) × IsFlightOf given mission flight

  -- so `votes` has a reply to bytes that state a mission, where rogues may give it some strays
  abbrev pub VotesAreThere : Type 0
  VotesAreThere = (job : VotesJob) (bytes : List ℕ) (mission : MissionData) (strays : Strays) → States bytes mission → given mission strays
      → (reply : Reply) × LoadsThen (VotesGives (freely given) job) bytes reply

  -- and `trial` has one for each number
  abbrev pub TrialsAreThere : Type 0
  TrialsAreThere = (job : TrialJob) → ((mission : MissionData) → IsMission (tree_of job.number) mission → (strays : Strays) × given mission strays)
      → (reply : Reply) × (trial_duty (freely given) job).gives [] reply
