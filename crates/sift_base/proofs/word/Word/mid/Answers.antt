use Rattle.std.proofs.Common.{arith}
use Rattle.std.proofs.lemmas.Int.{ints}
use Rattle.std.proofs.lemmas.Grind.{common_steps}
use Rattle.sift_base.proofs.word.Word.mid.Goals.{then-signed, else-signed}
use Rattle.sift_base.proofs.word.Word.mid.Goals as goal

pub returns-then-signed-2 : goal.returns-then-signed-2
returns-then-signed-2 c =
    elim c.if-signed.branch [ then-signed w ↦ grind (arith, ints) | else-signed w ↦ grind (arith, ints) ]

pub returns-else-signed-3 : goal.returns-else-signed-3
returns-else-signed-3 c = grind (arith, common_steps)
