use Rattle.std.proofs.Common.{◌≡◌, ◌∷◌, rules, arith}
use Rattle.std.proofs.lemmas.Grind.{common_steps}
use Rattle.sift_line.specs.laws.Printed.{parts_all}
use Rattle.sift_line.proofs.number.push_list.Goals as goal

pub returns : goal.returns
returns g c =
    let cut : c.args.items.now ≡ c.in-Some.first.now ∷ c.in-Some.others.now = search rules in
    parts_all g.T.Item.item_text _ _ _ _ _ _ _ cut c.loop-item-test.false c.in_ok-push.ensures c.loop-item.invariant

pub loop-item-preserved : goal.loop-item-preserved
loop-item-preserved g c = grind (arith, common_steps)
