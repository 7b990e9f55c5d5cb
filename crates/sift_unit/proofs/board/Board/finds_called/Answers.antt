use Rattle.std.proofs.Common.{◌∙◌, sym}
use Rattle.sift_unit.specs.Boards.{desk_of}
use Rattle.sift_unit.proofs.Finding.{none_said_now, called_found}
use Rattle.sift_unit.proofs.board.Board.finds_called.Goals as goal

-- the slot isn't said now
pub returns-then-self-due-clause-finds : goal.returns-then-self-due-clause-finds
returns-then-self-due-clause-finds c =
    none_said_now _ c.requires.walks.fits (desk_of c.args.self.now) c.requires.walks.range c.requires.at.part (λ s. c.if-self-due.true (s ∙ sym c.due.ensures))

-- it is
pub returns-clause-finds : goal.returns-clause-finds
returns-clause-finds c =
    called_found _ c.requires.walks.fits (desk_of c.args.self.now) c.requires.walks.range c.requires.at.part c.requires.at.slot (c.if-self-due.false ∙ c.due.ensures)
    c.next_called-self.result c.next_called-self.ensures
