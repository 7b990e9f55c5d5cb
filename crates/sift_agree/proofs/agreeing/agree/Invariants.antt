use Rattle.std.proofs.Common.{All, ◌∷◌, take}
use Rattle.sift_agree.specs.Agreement.{HoldsNoMajority}
use Rattle.sift_agree.proofs.agreeing.agree.Given as goal

-- no place so far holds the majority
abbrev pub invariant-loop-relay : goal.invariant-loop-relay
invariant-loop-relay l = record {
  first : HoldsNoMajority (l.direct ∷ l.relays) l.direct;
  so_far : All (HoldsNoMajority (l.direct ∷ l.relays)) (take l.relay-index l.relays);
}
