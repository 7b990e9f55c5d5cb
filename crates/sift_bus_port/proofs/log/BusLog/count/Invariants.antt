use Rattle.std.proofs.Common.{◌≡◌, ◌≤◌, ◌*◌}
use Rattle.sift_base.specs.Units.{unit_limit}
use Rattle.sift_bus_port.specs.Logs.{count_places, log_of}
use Rattle.sift_bus_port.proofs.log.BusLog.count.Given as goal

-- the words in the slots below this one were counted
abbrev pub invariant-loop-slot : goal.invariant-loop-slot
invariant-loop-slot l = record {
  few : l.count ≤ l.slot * unit_limit;
  counted : l.count ≡ count_places (λ k p. (log_of l.self).wrong l.f k p l.bus) l.slot (log_of l.self).ranges.units;
}
