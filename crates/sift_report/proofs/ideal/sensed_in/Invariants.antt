use Rattle.std.proofs.Common.{◌≡◌, map}
use Rattle.std.specs.List.{range_with_len}
use Rattle.sift_mission.specs.Parts.{flown_of}
use Rattle.sift_report.proofs.ideal.sensed_in.Given as goal

-- the words of the sensors so far
abbrev pub invariant-loop-x : goal.invariant-loop-x
invariant-loop-x l = l.words.items ≡ map (λ x. (flown_of l.mission).sensed x l.f) (range_with_len 0 l.x)
