use Rattle.std.proofs.Common.{arith}
use Rattle.std.proofs.lemmas.Grind.{common_steps}
use Rattle.sift_rogue.proofs.rogue.sift.Goals as goal

pub returns-in-Some-clause-sifted : goal.returns-in-Some-clause-sifted
returns-in-Some-clause-sifted c = grind (arith, common_steps)
