use Rattle.std.proofs.Common.{◌≡◌, ◌++◌, replicate}
use Rattle.sift_mission.proofs.mission.push_copies.Given as goal

-- so many copies as there were rounds were added
abbrev pub invariant-loop : goal.invariant-loop
invariant-loop l = l.list.items ≡ l.fn.list.items ++ replicate l.counter l.number
