use Rattle.std.proofs.Common.{◌≡◌, length}
use Rattle.sift_mission.specs.Parts.{data_of}
use Rattle.sift_report.proofs.CompiledFrames.{BeginsWith}
use Rattle.sift_report.proofs.ideal.CompiledIdeal.frame.Given as goal

-- the words of the tasks so far stand first, and the machine is at the frame before
abbrev pub invariant-loop-t : goal.invariant-loop-t
invariant-loop-t l =
    (l.self ≡ l.initial.self)
    × (length l.made.items ≡ length l.initial.self)
    × BeginsWith (data_of l.mission).program l.initial.self l.agreed l.t l.made.items
