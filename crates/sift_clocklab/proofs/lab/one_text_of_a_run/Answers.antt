use Rattle.sift_clocklab.proofs.Figures.{one_text_of_a_run}
use Rattle.sift_clocklab.proofs.lab.one_text_of_a_run.Goals as goal

pub returns : goal.returns
returns c = one_text_of_a_run
