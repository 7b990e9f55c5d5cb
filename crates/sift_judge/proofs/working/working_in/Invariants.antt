use Rattle.std.proofs.Common.{◌≡◌, take}
use Rattle.std.specs.List.{filter}
use Rattle.sift_mission.specs.Parts.{data_of}
use Rattle.sift_report.specs.Told.{works_in}
use Rattle.sift_judge.proofs.working.working_in.Given as goal

-- the working units among the first ones
abbrev pub invariant-loop-i : goal.invariant-loop-i
invariant-loop-i l = l.working.items ≡ filter (λ u. works_in (data_of l.mission) u l.f) (take l.i l.config)
