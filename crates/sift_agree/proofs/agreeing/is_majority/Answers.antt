use Rattle.std.proofs.Common.{◌≡◌, ℕ, suc, ◌+◌, ◌*◌, ◌<◌, ◌↔◌, ◌∷◌, IsTrue, length, nat_lt, rules, arith}
use Rattle.std.proofs.lemmas.Bool.{ltb-true, lt-ltb}
use Rattle.std.proofs.lemmas.Grind.{common_steps}
use Rattle.sift_vote.specs.Majority.{votes_for}
use Rattle.sift_agree.proofs.agreeing.is_majority.Goals as goal

-- the direct place and n others are fewer than twice the votes
is_more : (n k v : ℕ) → k ≡ v → IsTrue (nat_lt (1 + n) (2 * k)) ↔ (suc n < 2 * v)
is_more n k v is = (λ t. (let more = ltb-true (1 + n) (2 * k) t in omega (arith, more, is)), λ more. lt-ltb (1 + n) (2 * k) (omega (arith, more, is)))

pub returns : goal.returns
returns c =
    let votes : c.from.result + c.count-relayed.result ≡ votes_for (c.args.direct.now ∷ c.args.relays.now) c.args.word = first_of (search rules, grind (arith, common_steps)) in
    is_more (length c.args.relays.now) _ _ votes
