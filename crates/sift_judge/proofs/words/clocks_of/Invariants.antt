use Rattle.std.proofs.Common.{◌≡◌, map, take}
use Rattle.sift_mission.specs.Parts.{data_of}
use Rattle.sift_judge.specs.Clocks.{clock_told}
use Rattle.sift_judge.proofs.words.clocks_of.Given as goal

-- the offsets of the units so far
abbrev pub invariant-loop-unit : goal.invariant-loop-unit
invariant-loop-unit l = l.clocks.items ≡ map (clock_told (data_of l.mission) l.lines l.f) (take l.unit-index l.units)
