use Rattle.std.proofs.Common.{◌∙◌, sym}
use Rattle.sift_unit.specs.Boards.{desk_of}
use Rattle.sift_unit.proofs.Finding.{none_heard_now, caller_found}
use Rattle.sift_unit.proofs.board.Board.finds_caller.Goals as goal

-- the slot isn't heard now
pub returns-then-self-heard_in-clause-finds : goal.returns-then-self-heard_in-clause-finds
returns-then-self-heard_in-clause-finds c =
    none_heard_now _ c.requires.walks.fits (desk_of c.args.self.now) c.requires.walks.range c.requires.at.part (λ s. c.if-self-heard_in.true (s ∙ sym c.heard_in.ensures))

-- it is
pub returns-clause-finds : goal.returns-clause-finds
returns-clause-finds c =
    caller_found _ c.requires.walks.fits (desk_of c.args.self.now) c.requires.walks.range c.requires.at.part c.requires.at.slot (c.if-self-heard_in.false ∙ c.heard_in.ensures)
    c.next_caller-self.result c.next_caller-self.ensures
