use Rattle.sift_lab_jobs.proofs.Shown.{within}
use Rattle.sift_lab_jobs.proofs.labs.no_skew_is_over_the_bound.Goals as goal

pub returns : goal.returns
returns c = within c.drawn_runs_are_kept.ensures c.most_is_within_the_bound.ensures
