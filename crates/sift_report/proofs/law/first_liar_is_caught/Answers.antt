use Rattle.sift_report.proofs.FirstLiar.{first_liar_is_caught}
use Rattle.sift_report.proofs.law.first_liar_is_caught.Goals as goal

pub returns : goal.returns
returns c = first_liar_is_caught
