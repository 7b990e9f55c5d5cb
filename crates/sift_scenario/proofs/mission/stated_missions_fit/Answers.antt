use Rattle.sift_scenario.proofs.Fitting.{stated_fit}
use Rattle.sift_scenario.proofs.mission.stated_missions_fit.Goals as goal

pub returns : goal.returns
returns c = stated_fit
