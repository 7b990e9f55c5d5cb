use Rattle.std.proofs.Common.{rules, arith}
use Rattle.std.proofs.lemmas.Grind.{common_steps}
use Rattle.std.proofs.lemmas.Slice.Eq.{text_from_reads}
use Rattle.sift_parse.proofs.scan.keyword_of.Goals as goal

pub returns-in-repeat : goal.returns-in-repeat
returns-in-repeat c = search (rules, text_from_reads)

pub returns-in-else : goal.returns-in-else
returns-in-else c = grind (arith, common_steps)

pub returns-in-sense : goal.returns-in-sense
returns-in-sense c = grind (arith, common_steps)

pub returns-in-last : goal.returns-in-last
returns-in-last c = grind (arith, common_steps)

pub returns-in-now : goal.returns-in-now
returns-in-now c = grind (arith, common_steps)

pub returns-in-mid : goal.returns-in-mid
returns-in-mid c = grind (arith, common_steps)

pub returns-in-out : goal.returns-in-out
returns-in-out c = grind (arith, common_steps)

pub returns-in-let : goal.returns-in-let
returns-in-let c = grind (arith, common_steps)
