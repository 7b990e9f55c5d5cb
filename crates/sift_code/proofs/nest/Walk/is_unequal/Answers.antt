use Rattle.std.proofs.Common.{arith, inl, inr, sym, ◌∙◌}
use Rattle.sift_code.specs.Heights.{height_at}
use Rattle.sift_code.proofs.Walks.{unset, read_height, unequal_at_end}
use Rattle.sift_code.proofs.nest.Walk.is_unequal.Goals.{then-meets_another, else-meets_another}
use Rattle.sift_code.proofs.nest.Walk.is_unequal.Goals as goal

pub ends_unequal-requires-clause-here : goal.ends_unequal-requires-clause-here
ends_unequal-requires-clause-here c = c.requires.here

-- a jump brought another height, or a round ends with one
pub returns-then-ends_unequal : goal.returns-then-ends_unequal
returns-then-ends_unequal c = (
  λ t. elim c.if-meets_another.branch [
    | then-meets_another w ↦ inl (c.meets_another.ensures.0 w.if-meets_another.true)
    | else-meets_another w ↦ inr (inl (w.ends_unequal.ensures.0 (sym w.value-is ∙ t)))
  ],
  λ unequal. c.if-ends_unequal.true,
)

-- the code's length, with a height
pub returns-then-at-len : goal.returns-then-at-len
returns-then-at-len c =
    let high = read_height c.args.self.now.heights.items c.args.at c.index.result.now (height_at c.args.nest.now c.args.at)
    (omega (arith, c.requires.here.long)) c.index.ensures (c.requires.here.heights c.args.at (omega arith)) in
    elim c.if-meets_another.branch [
      | then-meets_another w ↦ absurd (let t = w.if-meets_another.true in let f = c.if-ends_unequal.false in let is = w.value-is in cc)
      | else-meets_another w ↦ unequal_at_end c.args.nest.now c.args.at c.index.result.now high (c.if-at-len.true ∙ c.len.ensures)
          (unset w.if-meets_another.false c.meets_another.ensures.1) (unset (sym w.value-is ∙ c.if-ends_unequal.false) w.ends_unequal.ensures.1)
    ]

pub returns-else-at-len : goal.returns-else-at-len
returns-else-at-len c = grind arith
