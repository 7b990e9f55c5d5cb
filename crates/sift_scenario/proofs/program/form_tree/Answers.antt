use Rattle.sift_scenario.proofs.program.form_tree.Goals as goal

-- the text is that of a task
pub returns-in-Ok-clause-tree : goal.returns-in-Ok-clause-tree
returns-in-Ok-clause-tree c = rw c.in-Text.is c.in-Ok.ensures.answer
