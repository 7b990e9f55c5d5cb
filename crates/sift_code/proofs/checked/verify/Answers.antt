use Rattle.std.proofs.Common.{arith, refl, subst, ap}
use Rattle.sift_code.specs.Refusal.{IsSound, program_of}
use Rattle.sift_code.proofs.checked.verify.Goals as goal

pub bound-bound-requires : goal.bound-bound-requires
bound-bound-requires c = c.in_ok-stack.ensures.sound refl

pub follow-requires : goal.follow-requires
follow-requires c = grind arith

pub returns-clause-sound : goal.returns-clause-sound
returns-clause-sound c =
    λ ok. subst (λ code. IsSound (program_of code c.args.sensors c.args.words c.args.outputs)) c.in_ok-nest.ensures (c.in_ok-stack.ensures.sound refl)

pub returns-in_err-stack-clause-refused : goal.returns-in_err-stack-clause-refused
returns-in_err-stack-clause-refused c = grind arith

pub returns-clause-kept : goal.returns-clause-kept
returns-clause-kept c = ap (λ code. program_of code c.args.sensors c.args.words c.args.outputs) c.in_ok-nest.ensures

pub invariant_of-result : goal.invariant_of-result
invariant_of-result c = record { sound = c.in_ok-stack.ensures.sound refl; few = c.requires.few; stack_is = c.in_ok-stack.ensures.stack; bound_is = c.bound-bound.ensures }
