use Rattle.std.proofs.Common.{◌≡◌, length}
use Rattle.sift_mission.specs.Data.{IsConfigOf}
use Rattle.sift_mission.specs.Crews.{AreAllRoles}
use Rattle.sift_mission.specs.Parts.{data_of, flown_of}
use Rattle.sift_mission.proofs.crews.all_roles.Given as goal

-- the slots so far have their roles
abbrev pub invariant-loop-slot : goal.invariant-loop-slot
invariant-loop-slot l =
    (length l.roles ≡ 90) × (IsConfigOf (flown_of l.fn.parts) l.fn.config → AreAllRoles (data_of l.fn.parts) l.fn.config l.slot l.roles)
