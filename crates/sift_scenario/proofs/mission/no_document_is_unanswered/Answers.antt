use Rattle.sift_scenario.proofs.EachAnswered.{each_answered}
use Rattle.sift_scenario.proofs.mission.no_document_is_unanswered.Goals as goal

pub returns : goal.returns
returns c = each_answered
