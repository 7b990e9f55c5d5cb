use Rattle.sift_bus.proofs.Turning.{IsNextBelow}
use Rattle.sift_bus.proofs.flying.next_of.Given as goal

-- the next of those so far
abbrev pub invariant-loop-number : goal.invariant-loop-number
invariant-loop-number g l = IsNextBelow (λ flyer. (g.P.Look.view flyer.port).conduct.progress) l.end l.flyers l.number l.below l.next
