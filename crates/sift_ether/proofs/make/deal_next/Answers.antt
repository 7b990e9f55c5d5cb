use Rattle.std.proofs.Common.{List, [], ap, ◌∙◌, arith}
use Rattle.std.proofs.lemmas.Grind.{common_steps}
use Rattle.sift_ether.specs.declared.rule.Chronicle.{Chronicle}
use Rattle.sift_ether.specs.TableSeats.{chronicle_of, first_of, rest_of}
use Rattle.sift_ether.proofs.Dealing.{next_blank}
use Rattle.sift_ether.proofs.make.deal_next.Goals as goal

pub returns-clause-head : goal.returns-clause-head
returns-clause-head c = let e = c.split_first-seat.ensures.head in
    (e.0, e.1 ∙ (ap (λ m. (rest_of m.0, m.1)) c.requires.left ∙ ap (λ (cs : List Chronicle). (rest_of cs, [])) (next_blank c.args.unit c.args.layout.units c.requires.unit)))

pub returns-clause-blank : goal.returns-clause-blank
returns-clause-blank c = ap chronicle_of (c.split_first-seat.ensures.seat.1 ∙ (ap (λ m. (first_of m.0, [])) c.requires.left
    ∙ ap (λ (cs : List Chronicle). (first_of cs, [])) (next_blank c.args.unit c.args.layout.units c.requires.unit)))

pub invariant_of-result : goal.invariant_of-result
invariant_of-result c = grind (arith, common_steps)
