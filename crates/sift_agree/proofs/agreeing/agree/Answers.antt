use Rattle.std.proofs.Common.{◌∷◌, take_all, arith}
use Rattle.std.proofs.lemmas.Grind.{common_steps}
use Rattle.sift_agree.specs.laws.Winners.{agreed-found, won-agreed, lost-agreed}
use Rattle.sift_agree.proofs.agreeing.agree.Goals as goal

-- the direct word is the majority
pub returns-in-Some-clause-exact : goal.returns-in-Some-clause-exact
returns-in-Some-clause-exact c = won-agreed (c.args.direct ∷ c.args.relays.now) c.in-Some.word c.in-Some.ensures.won

-- a relay is the majority
pub returns-in-Some-winner-clause-exact : goal.returns-in-Some-winner-clause-exact
returns-in-Some-winner-clause-exact c =
    won-agreed (c.args.direct ∷ c.args.relays.now) c.in-Some-winner.word c.in-Some-winner.ensures.won

-- no place holds a majority
pub returns-clause-agreed : goal.returns-clause-agreed
returns-clause-agreed c =
    let seen_all = take_all c.loop-relay.relay-index c.args.relays.now (omega arith) in
    rw c.of.ensures
    (lost-agreed c.args.direct c.args.relays.now c.loop-relay.invariant.first (rw seen_all at c.loop-relay.invariant.so_far))

pub returns-clause-exact : goal.returns-clause-exact
returns-clause-exact c = agreed-found (c.args.direct ∷ c.args.relays.now) c.of.result (returns-clause-agreed c)

pub loop-relay-preserved : goal.loop-relay-preserved
loop-relay-preserved c = grind (arith, common_steps)
