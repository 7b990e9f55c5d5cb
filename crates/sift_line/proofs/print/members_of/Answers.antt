use Rattle.std.proofs.Common.{◌≡◌, ◌++◌, ◌∷◌, [], ◌∙◌, length, sym, ap, arith}
use Rattle.std.specs.List.{filter}
use Rattle.std.proofs.lemmas.List.{take_all}
use Rattle.sift_base.specs.Units.{holds, members}
use Rattle.sift_exec.specs.laws.Counted.{filter-yes, filter-no, filter-room}
use Rattle.sift_line.proofs.print.members_of.Goals.{then-has, else-has}
use Rattle.sift_line.proofs.print.members_of.Goals as goal

pub push-requires : goal.push-requires
push-requires c =
    let room = filter-room (holds c.args.units) c.all-everyone.result c.loop-i.i c.unit_at-unit.result c.unit_at-unit.ensures c.len-i-end.ensures.config in
    (omega arith, omega (arith, room, ap length c.loop-i.invariant))

pub loop-i-preserved : goal.loop-i-preserved
loop-i-preserved c = elim c.if-has.branch [
  | then-has w ↦
      let items : c.if-has.list.items ≡ c.loop-i.list.items ++ c.unit_at-unit.result ∷ [] = rw w.list-is w.push.ensures.items in
      items ∙ ap (λ us. us ++ c.unit_at-unit.result ∷ []) c.loop-i.invariant
      ∙ sym (filter-yes (holds c.args.units) c.all-everyone.result c.loop-i.i c.unit_at-unit.result c.unit_at-unit.ensures (sym c.has.ensures ∙ w.if-has.true))
  | else-has w ↦
      rw w.list-is (c.loop-i.invariant
      ∙ sym (filter-no (holds c.args.units) c.all-everyone.result c.loop-i.i c.unit_at-unit.result c.unit_at-unit.ensures (sym c.has.ensures ∙ w.if-has.false)))
]

pub returns : goal.returns
unfolding members
returns c =
    let all = take_all c.loop-i.i c.all-everyone.result (omega (arith, c.loop-i-test.false, c.len-i-end.ensures.length)) in
    c.loop-i.invariant ∙ ap (filter (holds c.args.units)) (all ∙ c.all-everyone.ensures)
