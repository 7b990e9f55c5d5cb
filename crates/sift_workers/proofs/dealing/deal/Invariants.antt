use Rattle.std.proofs.Common.{◌≡◌, List, ◌++◌, vec_len}
use Rattle.sift_workers.specs.Hands.{IsDealt}
use Rattle.sift_workers.proofs.dealing.deal.Given as goal

-- what is dealt are the last pilots
abbrev pub invariant-loop-pilot : goal.invariant-loop-pilot
invariant-loop-pilot g l = (done : List g.row.P.Denot) × (l.fn.pilots.items ≡ l.pilots.items ++ done) × IsDealt l.workers l.threads (vec_len l.pilots) done l.hands.items

abbrev pub decreases-loop-pilot : goal.decreases-loop-pilot
decreases-loop-pilot g l = vec_len l.pilots
