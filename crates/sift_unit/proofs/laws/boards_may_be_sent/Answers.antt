use Rattle.sift_unit.proofs.board.Board.TheSendSync as board
use Rattle.sift_unit.proofs.laws.boards_may_be_sent.Goals as goal

pub returns : goal.returns
returns c = board.the_send
