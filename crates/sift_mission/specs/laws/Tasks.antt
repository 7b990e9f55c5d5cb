-- How many tasks a mission has.
use Rattle.std.proofs.Common.{◌≤◌, arith}
use Rattle.sift_mission.specs.Data.{FlownMission}
use Rattle.sift_mission.specs.Fits.{Fits}

module _ (m : FlownMission) (fit : Fits m) where
  -- tasks are no more than slots
  pub few_tasks : m.tasks ≤ m.slots
  few_tasks = let t = fit.counted.tasks in let w = fit.counted.words in omega arith
