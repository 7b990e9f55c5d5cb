use Rattle.sift_trial.proofs.DrawnTexts.{drawn_tasks_are_brief}
use Rattle.sift_trial.proofs.drawing.drawn_tasks_are_brief.Goals as goal

pub returns : goal.returns
returns c = drawn_tasks_are_brief
