use Rattle.std.proofs.Common.{arith, refl, subst, sym}
use Rattle.sift_code.specs.Refusal.{IsBadOperandAt}
use Rattle.sift_code.proofs.Walks.{unset}
use Rattle.sift_code.proofs.nest.Walk.check.Goals as goal

-- what holds at the start holds at each test
pub is_unequal-requires-clause-inside : goal.is_unequal-requires-clause-inside
is_unequal-requires-clause-inside c = c.requires.inside

pub is_unequal-requires-clause-here : goal.is_unequal-requires-clause-here
is_unequal-requires-clause-here c = c.requires.here

pub is_underflow-requires-clause-inside : goal.is_underflow-requires-clause-inside
is_underflow-requires-clause-inside c = c.requires.inside

pub is_underflow-requires-clause-here : goal.is_underflow-requires-clause-here
is_underflow-requires-clause-here c = c.requires.here

pub is_too_deep-requires-clause-inside : goal.is_too_deep-requires-clause-inside
is_too_deep-requires-clause-inside c = c.requires.inside

pub is_too_deep-requires-clause-here : goal.is_too_deep-requires-clause-here
is_too_deep-requires-clause-here c = c.requires.here

-- a refusal is the first that is due: none before it is
pub returns-then-is_bad_jump-clause-refused : goal.returns-then-is_bad_jump-clause-refused
returns-then-is_bad_jump-clause-refused c = (c.is_bad_jump.ensures.0 c.if-is_bad_jump.true, refl)

pub returns-then-is_unequal-clause-refused : goal.returns-then-is_unequal-clause-refused
returns-then-is_unequal-clause-refused c =
    let jumps = unset c.if-is_bad_jump.false c.is_bad_jump.ensures.1 in ((jumps, c.is_unequal.ensures.0 c.if-is_unequal.true), refl)

pub returns-then-is_underflow-clause-refused : goal.returns-then-is_underflow-clause-refused
returns-then-is_underflow-clause-refused c =
    let jumps = unset c.if-is_bad_jump.false c.is_bad_jump.ensures.1 in
    let equal = unset c.if-is_unequal.false c.is_unequal.ensures.1 in ((jumps, equal, c.is_underflow.ensures.0 c.if-is_underflow.true), refl)

pub returns-then-is_too_deep-clause-refused : goal.returns-then-is_too_deep-clause-refused
returns-then-is_too_deep-clause-refused c =
    let jumps = unset c.if-is_bad_jump.false c.is_bad_jump.ensures.1 in
    let equal = unset c.if-is_unequal.false c.is_unequal.ensures.1 in
    let filled = unset c.if-is_underflow.false c.is_underflow.ensures.1 in
    ((jumps, equal, filled, c.is_too_deep.ensures.0 c.if-is_too_deep.true), refl)

pub returns-then-is_bad_operand-clause-refused : goal.returns-then-is_bad_operand-clause-refused
returns-then-is_bad_operand-clause-refused c =
    let jumps = unset c.if-is_bad_jump.false c.is_bad_jump.ensures.1 in
    let equal = unset c.if-is_unequal.false c.is_unequal.ensures.1 in
    let filled = unset c.if-is_underflow.false c.is_underflow.ensures.1 in
    let shallow = unset c.if-is_too_deep.false c.is_too_deep.ensures.1 in
    let bad = subst (λ o. IsBadOperandAt c.args.limits.now o) c.instr.ensures.read (c.is_bad_operand.ensures.0 c.if-is_bad_operand.true) in
    ((jumps, equal, filled, shallow, bad), refl)

pub returns-then-is_too_deep-clause-free : goal.returns-then-is_too_deep-clause-free
returns-then-is_too_deep-clause-free c = grind arith

pub returns-then-is_bad_operand-clause-free : goal.returns-then-is_bad_operand-clause-free
returns-then-is_bad_operand-clause-free c = grind arith

-- a place with none of them is free
pub returns-clause-free : goal.returns-clause-free
returns-clause-free c =
    let named = unset c.if-is_bad_operand.false c.is_bad_operand.ensures.1 in
    λ ok. record {
      jumps = unset c.if-is_bad_jump.false c.is_bad_jump.ensures.1;
      equal = unset c.if-is_unequal.false c.is_unequal.ensures.1;
      filled = unset c.if-is_underflow.false c.is_underflow.ensures.1;
      shallow = unset c.if-is_too_deep.false c.is_too_deep.ensures.1;
      named = λ bad. named (subst (λ o. IsBadOperandAt c.args.limits.now o) (sym c.instr.ensures.read) bad);
    }
