use Rattle.sift_jobs.proofs.trial.TrialJobCommand.begin.Goals as goal

-- what is told of the flight of the mission that was drawn
pub returns : goal.returns
returns g c = λ reply may. (_, c.in_ok-mission.ensures, (may.0, c.by_workers.ensures may.0 may.1, may.2))
