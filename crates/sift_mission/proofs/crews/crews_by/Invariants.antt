use Rattle.std.proofs.Common.{◌≡◌, length}
use Rattle.sift_mission.specs.Crews.{AreCrewsBy}
use Rattle.sift_mission.proofs.crews.crews_by.Given as goal

-- the tasks so far have their crews
abbrev pub invariant-loop-t : goal.invariant-loop-t
invariant-loop-t l = (length l.crews ≡ 24) × AreCrewsBy l.fn.table l.fn.config l.t l.crews
