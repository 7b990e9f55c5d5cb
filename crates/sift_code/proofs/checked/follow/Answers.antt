use Rattle.std.proofs.Common.{ap, arith, below_more, length, refl, ◌≡◌, ◌∙◌, subst}
use Rattle.std.proofs.lemmas.Result.{err_from_is_err_and}
use Rattle.sift_code.specs.Refusal.{within}
use Rattle.sift_code.proofs.Firsts.{first_at, free_through}
use Rattle.sift_code.proofs.Tables.{read_item}
use Rattle.sift_code.specs.Heights.{stack_through}
use Rattle.sift_code.specs.Walk.{IsAt}
use Rattle.sift_code.proofs.checked.follow.Goals as goal

-- a place in the loop is the first that offends
pub returns-in_err-check-clause-refused : goal.returns-in_err-check-clause-refused
returns-in_err-check-clause-refused c =
    let same = ap length c.code-instr-items.ensures.same in
    let p = err_from_is_err_and c.from_residual-in_err-check.result c.from_residual-in_err-check.ensures.1 in
    rw (p.1, p.2) (λ other. first_at (within c.args.nest.now c.args.limits.now) c.loop-at.at c.in_err-check.field-0.0 (omega arith) c.loop-at.invariant.1 c.in_err-check.ensures.refused)

pub pass-requires-clause-read : goal.pass-requires-clause-read
pass-requires-clause-read c = read_item c.code-instr-items.result.now c.args.nest.now c.loop-at.at c.instr-item.result c.code-instr-items.ensures.same (omega arith) c.instr-item.is

-- one more place doesn't offend
pub loop-at-preserved : goal.loop-at-preserved
loop-at-preserved c = (c.pass.ensures, below_more _ _ c.loop-at.invariant.1 (c.in_ok-check.ensures.free refl))

-- the code's length is the first place that offends
pub returns-in_err-check-2-clause-refused : goal.returns-in_err-check-2-clause-refused
returns-in_err-check-2-clause-refused c =
    let same = ap length c.code-instr-items.ensures.same in
    let p = err_from_is_err_and c.from_residual-in_err-check-2.result c.from_residual-in_err-check-2.ensures.1 in
    rw (p.1, p.2) (λ other. first_at (within c.args.nest.now c.args.limits.now) c.len.result c.in_err-check-2.field-0.0
    (omega (arith, c.len.ensures))
    (λ q before. c.loop-at.invariant.1 q (omega (arith, c.len.ensures))) c.in_err-check-2.ensures.refused)

-- no place offends
pub returns-clause-sound : goal.returns-clause-sound
returns-clause-sound c =
    let same = ap length c.code-instr-items.ensures.same in
    λ ok. free_through (within c.args.nest.now c.args.limits.now) c.loop-at.at c.len.result (omega arith) c.len.ensures c.loop-at.invariant.1 (c.in_ok-check-2.ensures.free refl)

pub offset_bounds-instr-items-at : goal.offset_bounds-instr-items-at
offset_bounds-instr-items-at c = grind arith

pub check-requires-clause-inside : goal.check-requires-clause-inside
check-requires-clause-inside c = grind arith

pub pass-requires-clause-filled : goal.pass-requires-clause-filled
pass-requires-clause-filled c = (c.in_ok-check.ensures.free refl).filled

pub pass-requires-clause-here : goal.pass-requires-clause-here
pass-requires-clause-here c = c.loop-at.invariant.0

pub loop-at-init : goal.loop-at-init
loop-at-init c = grind arith

pub returns-clause-stack : goal.returns-clause-stack
returns-clause-stack c =
    let same = ap length c.code-instr-items.ensures.same in
    let there : c.loop-at.at ≡ length c.args.nest.now = omega arith in
    c.loop-at.invariant.0.stack ∙ ap (stack_through c.args.nest.now) there

pub pass-requires-clause-jumps : goal.pass-requires-clause-jumps
pass-requires-clause-jumps c = (c.in_ok-check.ensures.free refl).jumps

pub bounds-instr-items-at : goal.bounds-instr-items-at
bounds-instr-items-at c = grind arith

pub check-requires-2-clause-here : goal.check-requires-2-clause-here
check-requires-2-clause-here c =
    let same = ap length c.code-instr-items.ensures.same in
    let there : c.loop-at.at ≡ c.len.result = omega (arith, c.len.ensures) in
    subst (λ p. IsAt c.args.nest.now p c.loop-at.walk) there c.loop-at.invariant.0

pub returns-clause-refused : goal.returns-clause-refused
returns-clause-refused c = grind arith

pub pass-requires-clause-shallow : goal.pass-requires-clause-shallow
pass-requires-clause-shallow c = (c.in_ok-check.ensures.free refl).shallow

pub check-requires-clause-here : goal.check-requires-clause-here
check-requires-clause-here c = c.loop-at.invariant.0

pub check-requires-2-clause-inside : goal.check-requires-2-clause-inside
check-requires-2-clause-inside c = grind arith
