use Rattle.sift_clocklab.proofs.Figures.{most_is_within_the_bound}
use Rattle.sift_clocklab.proofs.lab.most_is_within_the_bound.Goals as goal

pub returns : goal.returns
returns c = most_is_within_the_bound
