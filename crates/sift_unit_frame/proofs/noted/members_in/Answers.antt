use Rattle.std.proofs.Common.{◌++◌, ◌∷◌, [], ap, ◌∙◌, sym, arith, length, take_all}
use Rattle.std.specs.List.{filter}
use Rattle.sift_base.specs.Units.{holds}
use Rattle.sift_exec.specs.laws.Counted.{filter-yes, filter-no, filter-room}
use Rattle.sift_unit_frame.proofs.noted.members_in.Goals as goal
use Rattle.sift_unit_frame.proofs.noted.members_in.Goals.{then-has, else-has}

-- there is room for one more
pub push-requires : goal.push-requires
push-requires c =
    let room = filter-room (holds c.args.set) c.args.config.now c.loop-position.position c.unit_at-unit.result c.unit_at-unit.ensures c.len-position-end.ensures.config in
    omega (arith, room, ap length c.loop-position.invariant)

-- one unit more
pub loop-position-preserved : goal.loop-position-preserved
loop-position-preserved c =
    let us = c.args.config.now in
    let i = c.loop-position.position in
    let t = c.unit_at-unit.result in
    let member = holds c.args.set in
    elim c.if-has.branch [
      | then-has w ↦ (λ j. (w.found-is j).items) ∙ w.push.ensures.items ∙ ap (λ xs. xs ++ t ∷ []) c.loop-position.invariant
          ∙ sym (filter-yes member us i t c.unit_at-unit.ensures (sym c.has.ensures ∙ w.if-has.true))
      | else-has w ↦ (λ j. (w.found-is j).items) ∙ c.loop-position.invariant
          ∙ sym (filter-no member us i t c.unit_at-unit.ensures (sym c.has.ensures ∙ w.if-has.false))
    ]

-- all of them
pub returns : goal.returns
returns c = c.loop-position.invariant ∙ ap (filter (holds c.args.set))
    (take_all c.loop-position.position c.args.config.now (omega (arith, c.loop-position-test.false, c.len-position-end.ensures.length)))
