use Rattle.std.proofs.Common.{◌≡◌, false}
use Rattle.std.specs.List.{All, AllWithin}
use Rattle.sift_base.specs.Units.{holds}
use Rattle.sift_mission.specs.Parts.{data_of}
use Rattle.sift_report.specs.Told.{told_at}
use Rattle.sift_judge.proofs.faults.all_accuse_none.Given as goal

-- the units so far accuse none
abbrev pub invariant-loop-unit : goal.invariant-loop-unit
invariant-loop-unit l = AllWithin (λ u. All (λ v. holds (told_at (data_of l.mission) l.lines l.f u).caught v ≡ false) l.units) l.units 0 l.unit-index
