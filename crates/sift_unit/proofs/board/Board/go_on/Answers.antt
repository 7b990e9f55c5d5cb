use Rattle.std.proofs.Common.{inl, refl, arith}
use Rattle.sift_unit.specs.Boards.{desk_of}
use Rattle.sift_unit.proofs.Continuing.{subframe_on}
use Rattle.sift_unit.proofs.board.Board.go_on.Goals as goal

-- the next subframe
pub returns-then-self-period : goal.returns-then-self-period
returns-then-self-period c = record {
  going = subframe_on _ c.requires.walks.fits (desk_of c.args.self.now) c.requires.end (let low = c.if-self-period.true in let p = c.period.ensures in omega arith);
  same = record { unit = refl; frames = refl; storm = refl; turned = refl };
  frame = inl refl;
  place = omega arith;
}
