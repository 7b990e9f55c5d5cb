use Rattle.std.proofs.Common.{◌≡◌, ◌+◌, ℕ, Vec, Global, List, [], All, length, sym, ap, ◌∙◌, subst, arith}
use Rattle.std.proofs.lemmas.List.Elements.{All-push}
use Rattle.sift_workers.proofs.dealing.empty_hands.Goals as goal

pub loop-init : goal.loop-init
loop-init g c = let hands = c.in_ok-hands.ensures in record {
  within = omega arith;
  count = hands.len;
  room = (let room = hands.capacity in let same = c.from.ensures in omega arith);
  empty = λ k d low. absurd (omega (arith, ap length hands.items));
}

-- one hand more
pub loop-preserved : goal.loop-preserved
loop-preserved g c = let inv = c.loop.invariant in let push = c.push_reserved.ensures in record {
  within = (let t = c.loop-test.true in omega arith);
  count = push.len ∙ ap (λ (n : ℕ). n + 1) inv.count;
  room = (let room = inv.room in let same = push.capacity in omega arith);
  empty = subst (λ (hands : List (Vec g.row.P.Denot Global)). All (λ hand. hand.items ≡ []) hands) (sym push.items)
      (All-push (λ (hand : Vec g.row.P.Denot Global). hand.items ≡ []) c.loop.hands.items c.new.result inv.empty c.new.ensures.items);
}
