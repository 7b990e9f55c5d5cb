use Rattle.sift_trial.proofs.Calm.{calm}
use Rattle.sift_trial.proofs.drawing.drawn_missions_have_no_storms.Goals as goal

pub returns : goal.returns
returns c = calm
