use Rattle.std.proofs.Common.{◌∙◌, sym, ap, arith, length, Some, lit<}
use Rattle.sift_code.specs.Bound.{kept, product}
use Rattle.sift_code.specs.Kept.{products_outside, rounds_at}
use Rattle.sift_code.specs.Refusal.{within}
use Rattle.sift_code.proofs.Tables.{read_item}
use Rattle.sift_code.proofs.Bounds.{bound_whole, sum_more, product_in, outside_in, product_out, outside_out, rounds_end, rounds_other, outside_room}
use Rattle.sift_code.proofs.checked.bound.Goals as goal
use Rattle.sift_code.proofs.checked.bound.Goals.{in-Begin, in-End, in_default}

-- no more than 32 loops are open
pub push-requires : goal.push-requires
push-requires c =
    let at = read_item c.code-instr-items.result.now c.args.nest.now c.loop-instr.instr-index c.instr-item.result c.code-instr-items.ensures.same (omega arith) c.instr-item.is in (
      lit< tt,
      outside_room
          (within c.args.nest.now c.args.limits.now) c.requires c.loop-instr.instr-index c.in-Begin.rounds c.loop-instr.outside.items (at
          ∙ ap Some c.in-Begin.is) c.loop-instr.invariant.2,
    )

-- the sum and the products behind one more instruction
pub loop-instr-preserved : goal.loop-instr-preserved
loop-instr-preserved c =
    let at = read_item c.code-instr-items.result.now c.args.nest.now c.loop-instr.instr-index c.instr-item.result c.code-instr-items.ensures.same (omega arith) c.instr-item.is in
    let sum = c.saturating_add-bound.ensures ∙ sum_more c.args.nest.now c.loop-instr.instr-index c.loop-instr.bound c.loop-instr.product c.loop-instr.invariant.0 c.loop-instr.invariant.1 in
    elim c.match-instr.branch [
      | in-Begin w ↦ (
          let here = at ∙ ap Some w.in-Begin.is in (
            sum,
            w.product-is ∙ (w.saturating_mul-product.ensures
                ∙ rw w.from.ensures (product_in c.args.nest.now c.loop-instr.instr-index w.in-Begin.rounds c.loop-instr.product here
                c.loop-instr.invariant.1)),
            ap (λ v. v.items) w.outside-is
                ∙ (w.push.ensures.items
                ∙ outside_in c.args.nest.now c.loop-instr.instr-index w.in-Begin.rounds c.loop-instr.product c.loop-instr.outside.items here
                c.loop-instr.invariant.1 c.loop-instr.invariant.2),
          ))
      | in-End w ↦ (
          let next = rounds_end c.args.nest.now c.loop-instr.instr-index (at ∙ ap Some w.in-End.is) in (
            sum,
            w.product-is ∙ (w.unwrap_or-product.ensures
                ∙ (product_out (rounds_at c.args.nest.now c.loop-instr.instr-index) c.loop-instr.outside.items w.pop.result
                c.loop-instr.invariant.2 w.pop.ensures.value ∙ ap (λ rs. kept (product rs)) (sym next))),
            ap (λ v. v.items) w.outside-is
                ∙ (outside_out (rounds_at c.args.nest.now c.loop-instr.instr-index) c.loop-instr.outside.items w.pop.new.self.items
                c.loop-instr.invariant.2 w.pop.ensures.rest ∙ ap products_outside (sym next)),
          ))
      | in_default w ↦ (
          let next = rounds_other c.args.nest.now c.loop-instr.instr-index c.instr-item.result at (w.in_default.not-Begin, w.in_default.not-End) in (
            sum,
            w.product-is ∙ (c.loop-instr.invariant.1 ∙ ap (λ rs. kept (product rs)) (sym next)),
            ap (λ v. v.items) w.outside-is ∙ (c.loop-instr.invariant.2 ∙ ap products_outside (sym next)),
          ))
    ]

-- the sum is whole
pub returns : goal.returns
returns c =
    let same = ap length c.code-instr-items.ensures.same in
    c.loop-instr.invariant.0 ∙ ap kept (bound_whole c.args.nest.now c.loop-instr.instr-index (omega arith))

pub offset_bounds-instr-items-instr-index : goal.offset_bounds-instr-items-instr-index
offset_bounds-instr-items-instr-index c = grind arith
