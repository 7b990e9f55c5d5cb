use Rattle.std.proofs.Common.{◌≡◌, ℕ, ◌&&◌, take}
use Rattle.sift_base.specs.Units.{holds, has}
use Rattle.sift_unit_frame.specs.Memories.{memory_of}
use Rattle.sift_unit_frame.proofs.memory.Memory.record.Given as goal

-- noted in each way are those that were caught in it, among the units so far
abbrev pub invariant-loop-position : goal.invariant-loop-position
invariant-loop-position l = record {
  polls : (v : ℕ) → holds l.recorder.poll v ≡ (has (take l.position l.fn.config) v && holds l.polled v);
  relays : (v : ℕ) → holds l.recorder.relay v ≡ (has (take l.position l.fn.config) v && holds l.relayed v);
  clocks : (v : ℕ) → holds l.recorder.clock v ≡ (has (take l.position l.fn.config) v && holds (memory_of l.fn.self).clock v);
}
