use Rattle.sift_unit.proofs.board.Board.stamp.Goals as goal

pub returns : goal.returns
returns c = rw (c.period.ensures, c.due.ensures)
