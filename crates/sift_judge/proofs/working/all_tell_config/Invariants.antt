use Rattle.std.proofs.Common.{◌≡◌, Some}
use Rattle.std.specs.List.{AllWithin}
use Rattle.sift_mission.specs.Parts.{data_of}
use Rattle.sift_report.specs.Told.{told_at}
use Rattle.sift_judge.proofs.working.all_tell_config.Given as goal

-- the units so far tell it
abbrev pub invariant-loop-unit : goal.invariant-loop-unit
invariant-loop-unit l = AllWithin (λ u. (told_at (data_of l.mission) l.lines l.f u).config ≡ Some l.config) l.units 0 l.unit-index
