use Rattle.std.proofs.Common.{◌≡◌, ◌<◌, ℕ, length}
use Rattle.std.specs.Prelude.{slice_index_or}
use Rattle.sift_base.specs.Units.{members, units_of}
use Rattle.sift_mission.specs.Data.{IsConfigOf}
use Rattle.sift_mission.specs.Crews.{AreCrewsOf}
use Rattle.sift_mission.specs.Parts.{data_of, flown_of}
use Rattle.sift_mission.specs.declared.crews.Crews.{Crews}
use Rattle.sift_mission.proofs.crews.all_crews.Given as goal

-- the configurations so far have their crews
abbrev pub invariant-loop-bits : goal.invariant-loop-bits
invariant-loop-bits l =
    (length l.rows ≡ 256)
    × ((j : ℕ) (row : Crews) → j < l.bits → IsConfigOf (flown_of l.fn.parts) (members (units_of j)) →
    AreCrewsOf (data_of l.fn.parts) (members (units_of j)) (slice_index_or l.rows j row))
