use Rattle.sift_scenario.proofs.FirstBroken.{kept_or_broken}
use Rattle.sift_scenario.proofs.mission.rules_are_kept_or_broken.Goals as goal

pub returns : goal.returns
returns c = kept_or_broken
