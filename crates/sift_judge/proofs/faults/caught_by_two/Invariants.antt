use Rattle.std.proofs.Common.{◌≡◌, ℕ, ◌&&◌, take}
use Rattle.sift_base.specs.Units.{has, holds}
use Rattle.sift_mission.specs.Parts.{data_of}
use Rattle.sift_judge.proofs.faults.caught_by_two.Given as goal
use Rattle.sift_judge.proofs.Caught.{two_tell}

-- the set has the units so far that two working units tell that they caught
abbrev pub invariant-loop-i : goal.invariant-loop-i
invariant-loop-i l = (v : ℕ) → holds l.caught v ≡ (has (take l.i l.config) v && two_tell (data_of l.mission) l.lines l.f l.config v)
