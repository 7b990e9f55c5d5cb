use Rattle.std.proofs.Common.{◌+◌, ◌-◌, ◌∙◌, sym, ap, length, refl, subst, inl, inr, arith}
use Rattle.std.proofs.lemmas.Grind.{common_steps}
use Rattle.std.specs.Prelude.{Some}
use Rattle.sift_code.specs.Heights.{brought_by, trail_at}
use Rattle.sift_code.specs.Walk.{AreBrought}
use Rattle.sift_code.proofs.Passing.{passed, brought_by_jump, deeper, shallower, as_deep, brings_nothing, jump_brings, jump_may_be_bad, jump_depth, high_enough, low_enough}
use Rattle.std.proofs.lemmas.Option.{slice_get_within}
use Rattle.sift_code.proofs.nest.Walk.pass.Goals as goal

-- a JumpZ brings the height after it
pub returns-in-JumpZ : goal.returns-in-JumpZ
returns-in-JumpZ c =
    passed c.args.nest.now c.args.at c.args.instr c.args.self.now _ c.next_height.result c.index.result.now c.pops.result c.pushes.result
    c.index-2.result.now c.requires.read c.requires.here c.index.ensures c.pops.ensures c.pushes.ensures c.index-2.ensures
    c.next_height.ensures refl
    (brought_by_jump c.args.nest.now c.args.at c.in-JumpZ.to c.args.instr c.args.self.now c.index.result.now c.pops.result c.pushes.result
    c.deref_mut.result.now c.bring.new.table c.requires.read c.requires.here
    (jump_brings c.args.nest.now c.args.at c.in-JumpZ.to c.args.instr (inl c.in-JumpZ.is))
    (jump_may_be_bad c.args.nest.now c.args.at c.in-JumpZ.to c.args.instr (inl c.in-JumpZ.is)) c.requires.jumps c.index.ensures
    c.pops.ensures c.pushes.ensures c.deref_mut.ensures.value c.bring.ensures)
    (c.requires.here.depth ∙ sym (jump_depth c.args.nest.now c.args.at c.in-JumpZ.to c.args.instr c.requires.read (inl c.in-JumpZ.is))) c.max-self.ensures

-- a Jump brings the height before it
pub returns-in-Jump : goal.returns-in-Jump
returns-in-Jump c =
    passed c.args.nest.now c.args.at c.args.instr c.args.self.now _ c.next_height.result c.index.result.now c.pops.result c.pushes.result
    c.index-2.result.now c.requires.read c.requires.here c.index.ensures c.pops.ensures c.pushes.ensures c.index-2.ensures
    c.next_height.ensures refl
    (brought_by_jump c.args.nest.now c.args.at c.in-Jump.to c.args.instr c.args.self.now c.index.result.now c.pops.result c.pushes.result
    c.deref_mut-in-Jump.result.now c.bring-in-Jump.new.table c.requires.read c.requires.here
    (jump_brings c.args.nest.now c.args.at c.in-Jump.to c.args.instr (inr c.in-Jump.is))
    (jump_may_be_bad c.args.nest.now c.args.at c.in-Jump.to c.args.instr (inr c.in-Jump.is)) c.requires.jumps c.index.ensures
    c.pops.ensures c.pushes.ensures c.deref_mut-in-Jump.ensures.value c.bring-in-Jump.ensures)
    (c.requires.here.depth ∙ sym (jump_depth c.args.nest.now c.args.at c.in-Jump.to c.args.instr c.requires.read (inr c.in-Jump.is))) c.max-self.ensures

-- one more loop is open
pub returns-in-Begin : goal.returns-in-Begin
returns-in-Begin c =
    passed c.args.nest.now c.args.at c.args.instr c.args.self.now _ c.next_height.result c.index.result.now c.pops.result c.pushes.result
    c.index-2.result.now c.requires.read c.requires.here c.index.ensures c.pops.ensures c.pushes.ensures c.index-2.ensures
    c.next_height.ensures refl
    (subst (λ i. AreBrought (length c.args.nest.now) (brought_by i (trail_at c.args.nest.now c.args.at)) c.args.self.now.brought.items) (sym c.in-Begin.is) c.requires.here.brought)
    (ap (λ n. n + 1) c.requires.here.depth ∙ sym (deeper c.args.nest.now c.args.at c.in-Begin.field-0 (c.requires.read ∙ ap Some c.in-Begin.is) c.requires.jumps)) c.max-self.ensures

-- one less loop is open
pub returns-in-End : goal.returns-in-End
returns-in-End c =
    passed c.args.nest.now c.args.at c.args.instr c.args.self.now _ c.next_height.result c.index.result.now c.pops.result c.pushes.result
    c.index-2.result.now c.requires.read c.requires.here c.index.ensures c.pops.ensures c.pushes.ensures c.index-2.ensures
    c.next_height.ensures refl
    (subst (λ i. AreBrought (length c.args.nest.now) (brought_by i (trail_at c.args.nest.now c.args.at)) c.args.self.now.brought.items) (sym c.in-End.is) c.requires.here.brought)
    (ap (λ n. n - 1) c.requires.here.depth ∙ sym (shallower c.args.nest.now c.args.at (c.requires.read ∙ ap Some c.in-End.is))) c.max-self.ensures

-- no loop opens or closes, and nothing is brought
pub returns-in_default : goal.returns-in_default
returns-in_default c =
    passed c.args.nest.now c.args.at c.args.instr c.args.self.now _ c.next_height.result c.index.result.now c.pops.result c.pushes.result
    c.index-2.result.now c.requires.read c.requires.here c.index.ensures c.pops.ensures c.pushes.ensures c.index-2.ensures
    c.next_height.ensures refl
    (subst (λ l. AreBrought (length c.args.nest.now) l c.args.self.now.brought.items)
    (sym (brings_nothing c.args.instr (trail_at c.args.nest.now c.args.at) c.in_default.not-JumpZ c.in_default.not-Jump))
    c.requires.here.brought)
    (c.requires.here.depth ∙ sym (as_deep c.args.nest.now c.args.at c.args.instr c.requires.read (c.in_default.not-Begin, c.in_default.not-End))) c.max-self.ensures

pub overflow_cast-to-in-Jump : goal.overflow_cast-to-in-Jump
overflow_cast-to-in-Jump c = grind arith

pub bring-requires : goal.bring-requires
bring-requires c = grind arith

pub bring-requires-in-Jump : goal.bring-requires-in-Jump
bring-requires-in-Jump c = grind arith

pub overflow_add-self : goal.overflow_add-self
overflow_add-self c = grind arith

pub overflow_cast-to : goal.overflow_cast-to
overflow_cast-to c = grind arith

pub overflow_sub-self : goal.overflow_sub-self
overflow_sub-self c = grind (arith, common_steps)

pub overflow_sub-left : goal.overflow_sub-left
overflow_sub-left c =
    high_enough c.args.nest.now c.args.at c.args.instr c.args.self.now c.index.result.now c.pops.result c.requires.read c.requires.here c.index.ensures c.pops.ensures
    c.requires.filled

pub index-requires : goal.index-requires
index-requires c = omega (arith, slice_get_within c.args.nest.now c.args.at c.args.instr c.requires.read, c.requires.here.long, c.args.self.now.heights.ok.0)

pub index_mut-requires : goal.index_mut-requires
index_mut-requires c = omega (arith, slice_get_within c.args.nest.now c.args.at c.args.instr c.requires.read, c.requires.here.long, c.args.self.now.heights.ok.0)

pub index-requires-2 : goal.index-requires-2
index-requires-2 c = omega (arith, slice_get_within c.args.nest.now c.args.at c.args.instr c.requires.read, c.requires.here.brought.long, c.args.self.now.brought.ok.0)

pub overflow_add-at : goal.overflow_add-at
overflow_add-at c = omega (arith, slice_get_within c.args.nest.now c.args.at c.args.instr c.requires.read, c.requires.short)

pub overflow_add-at-2 : goal.overflow_add-at-2
overflow_add-at-2 c = omega (arith, slice_get_within c.args.nest.now c.args.at c.args.instr c.requires.read, c.requires.short)

pub overflow_add-after : goal.overflow_add-after
overflow_add-after c =
    omega (
      arith,
      low_enough c.args.nest.now c.args.at c.args.instr c.args.self.now c.index.result.now c.pops.result c.pushes.result c.requires.read c.requires.here
          c.index.ensures c.pops.ensures c.pushes.ensures c.requires.shallow,
    )
