use Rattle.sift_clocklab.proofs.DrawnRounds.{drawn_runs_are_kept}
use Rattle.sift_clocklab.proofs.lab.drawn_runs_are_kept.Goals as goal

pub returns : goal.returns
returns c = drawn_runs_are_kept
