use Rattle.sift_base.proofs.Shifts.{shl-or_zero}
use Rattle.sift_base.proofs.word.Word.shl.Goals as goal

pub returns : goal.returns
returns c = cc (shl-or_zero c.self.inside.bits c.from.result c.checked_shl.result c.checked_shl.ensures)
