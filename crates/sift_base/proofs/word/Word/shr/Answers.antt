use Rattle.sift_base.proofs.Shifts.{shr-or_zero}
use Rattle.sift_base.proofs.word.Word.shr.Goals as goal

pub returns : goal.returns
returns c =
    cc (shr-or_zero c.self.inside.bits c.from.result c.self.invariant c.checked_shr.result c.checked_shr.ensures)
