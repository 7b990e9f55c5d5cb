use Rattle.std.proofs.Common.{◌≡◌, length, take}
use Rattle.std.specs.List.{filter}
use Rattle.sift_base.specs.Units.{holds}
use Rattle.sift_mission.specs.Parts.{data_of}
use Rattle.sift_report.specs.Told.{told_at}
use Rattle.sift_judge.proofs.faults.count_accusers.Given as goal

-- so many of the units so far tell it
abbrev pub invariant-loop-unit : goal.invariant-loop-unit
invariant-loop-unit l = l.accusers ≡ length (filter (λ u. holds (told_at (data_of l.mission) l.lines l.f u).caught l.v) (take l.unit-index l.units))
