use Rattle.std.proofs.Common.{◌≡◌, replicate}
use Rattle.sift_bus_jobs.proofs.buses.one_each.Given as goal

-- there are as many buses as were counted
abbrev pub invariant-loop : goal.invariant-loop
invariant-loop l = l.buses.items ≡ replicate l.counter l.bus
