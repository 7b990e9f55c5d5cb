use Rattle.std.proofs.Common.{◌≡◌, map, take}
use Rattle.sift_unit_frame.specs.Memory.{polled_at}
use Rattle.sift_unit_frame.specs.Memories.{memory_of}
use Rattle.sift_unit_frame.proofs.memory.Memory.ballots.Given as goal

-- the words of the executors so far
abbrev pub invariant-loop-executor : goal.invariant-loop-executor
invariant-loop-executor l =
    l.ballots.items ≡ map (polled_at l.fn.poll.unit (memory_of l.fn.self) l.fn.poll.places.now l.fn.poll.word) (take l.executor-index l.fn.executors)
