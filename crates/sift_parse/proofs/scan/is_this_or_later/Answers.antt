use Rattle.std.proofs.lemmas.Bool.{leb-true, le-leb}
use Rattle.sift_parse.proofs.scan.is_this_or_later.Goals as goal

-- the name is a task's, and the numbers are compared
pub returns-in-Some : goal.returns-in-Some
returns-in-Some c = rw (← c.task_number.ensures, c.in-Some.is) (leb-true _ _, le-leb _ _)
