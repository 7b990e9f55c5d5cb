-- The laws of loading.
use Rattle.std.specs.Prelude.{ℕ, ◌≡◌, List, ◌++◌, Contains}
use Rattle.sift_mission.specs.Data.{MissionData}
use Rattle.sift_reply.specs.Duty.{GivesOneTo, HasOwnStatuses}
use Rattle.sift_reply.specs.Reply.{Reply, shared_statuses}
use Rattle.sift_load.specs.Loads.{mission_duty, States, StatesNone, no_mission_statuses}
use Rattle.sift_load.specs.declared.loading.NoMission.{NoMission}

-- bytes state at most one mission
abbrev pub OneMissionIsStated : Type 0
OneMissionIsStated = (bytes : List ℕ) (one other : MissionData) → States bytes one → States bytes other → one ≡ other

-- bytes that state one state none for no reason
abbrev pub StatedMissionsAreUnrefused : Type 0
StatedMissionsAreUnrefused = (bytes : List ℕ) (mission : MissionData) (why : NoMission) → States bytes mission → ¬ StatesNone bytes why

-- a command that gives one reply at most for the mission that bytes state gives one to them: they state one mission, or they state none, for
-- one reason
abbrev pub OneReplyIsGiven : (gives : MissionData → Reply → Type 0) → Type 0
OneReplyIsGiven gives =
    (bytes : List ℕ) → ((mission : MissionData) (one other : Reply) → States bytes mission → gives mission one → gives mission other → one ≡ other)
    → GivesOneTo (mission_duty gives) bytes

-- a command whose replies for a mission have these statuses, none of them shared, has these and those of bytes that state none
abbrev pub StatusesAreOwn : (gives : MissionData → Reply → Type 0) → Type 0
StatusesAreOwn gives = (statuses : List ℕ)
    → ((mission : MissionData) (reply : Reply) → gives mission reply → Contains statuses reply.status × ¬ Contains shared_statuses reply.status)
    → HasOwnStatuses (mission_duty gives) (statuses ++ no_mission_statuses)
