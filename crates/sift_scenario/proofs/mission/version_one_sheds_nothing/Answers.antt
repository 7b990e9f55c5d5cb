use Rattle.sift_scenario.proofs.Unshed.{unshed}
use Rattle.sift_scenario.proofs.mission.version_one_sheds_nothing.Goals as goal

pub returns : goal.returns
returns c = unshed
