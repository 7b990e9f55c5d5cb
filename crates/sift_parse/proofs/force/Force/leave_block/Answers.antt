use Rattle.std.proofs.Common.{rules, arith}
use Rattle.std.proofs.lemmas.Grind.{common_steps}
use Rattle.sift_parse.proofs.Places.Newest.{reverse-map-pushed, oldest-reverse-map}
use Rattle.sift_parse.proofs.force.Force.leave_block.Goals as goal

pub returns-in-Some-Block : goal.returns-in-Some-Block
returns-in-Some-Block c = first_of (search (rules, reverse-map-pushed, oldest-reverse-map), grind (arith, common_steps, reverse-map-pushed, oldest-reverse-map))

pub returns : goal.returns
returns c = grind (arith, common_steps)
