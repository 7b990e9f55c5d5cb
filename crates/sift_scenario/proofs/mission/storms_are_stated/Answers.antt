use Rattle.sift_scenario.proofs.Storming.{stated_storms}
use Rattle.sift_scenario.proofs.mission.storms_are_stated.Goals as goal

pub returns : goal.returns
returns c = stated_storms
