use Rattle.sift_trial.proofs.DrawnTexts.{drawn_texts_are_tasks}
use Rattle.sift_trial.proofs.drawing.drawn_texts_are_tasks.Goals as goal

pub returns : goal.returns
returns c = drawn_texts_are_tasks c.printed_tree_is_task.ensures
