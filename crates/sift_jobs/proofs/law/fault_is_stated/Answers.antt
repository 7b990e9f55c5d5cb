use Rattle.sift_jobs.proofs.StatedFault.{fault_is_stated}
use Rattle.sift_jobs.proofs.law.fault_is_stated.Goals as goal

pub returns : goal.returns
returns c = fault_is_stated c.fault_is_within_the_headline.ensures c.one_mission.ensures
