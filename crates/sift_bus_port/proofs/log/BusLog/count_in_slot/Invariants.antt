use Rattle.std.proofs.Common.{◌≡◌, ◌≤◌}
use Rattle.sift_bus_port.specs.Logs.{count_below, log_of}
use Rattle.sift_bus_port.proofs.log.BusLog.count_in_slot.Given as goal

-- the words from the units below the number were counted
abbrev pub invariant-loop-number : goal.invariant-loop-number
invariant-loop-number l = record {
  within : l.number ≤ l.self.grid.layout.units;
  few : l.count ≤ l.number;
  counted : l.count ≡ count_below (λ p. (log_of l.self).wrong l.f l.slot p l.bus) l.number;
}
