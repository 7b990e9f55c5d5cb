-- What a command about a mission does: it loads the mission, and gives a reply for it, or tells why bytes state none.
use Rattle.std.specs.Prelude.{ℕ, ◌≡◌, List, Some, Result, Ok, Err, IsUtf8, codes, [], ◌∷◌, ◌⊎◌}
use Rattle.std.specs.Fmt.{decimal}
use Rattle.std.specs.List.{concat}
use Rattle.toml.specs.Data.{Members}
use Rattle.toml.specs.Parse.{parse_document}
use Rattle.sift_mission.specs.Data.{MissionData}
use Rattle.sift_scenario.specs.Mission.{IsMission}
use Rattle.sift_scenario.specs.Refusal.{IsRefusedWith}
use Rattle.sift_reply.specs.Reply.{Reply}
use Rattle.sift_base.specs.declared.stop.Stop.{Stop}
use Rattle.sift_base.specs.declared.stop.Stop.TheVariants as stop
use Rattle.sift_scenario.specs.declared.mission.Refused as document
use Rattle.sift_scenario.specs.declared.mission.Refused.TheVariants.{Scenario, Task, Table, Script}
use Rattle.sift_reply.specs.Duty.{Duty}
use Rattle.sift_load.specs.declared.loading.NoMission.{NoMission}
use Rattle.sift_load.specs.declared.loading.NoMission.TheVariants.{NotADocument, Refused}

-- ---- the mission that the bytes of an input state, or why they state none

-- the bytes are a document, and this is its tree
abbrev pub IsDocument : List ℕ → Members → Type 0
IsDocument bytes document = IsUtf8 bytes × (parse_document bytes ≡ Some document)

-- the bytes are a document that states the mission
abbrev pub States : List ℕ → MissionData → Type 0
States bytes mission = (document : Members) × IsDocument bytes document × IsMission document mission

-- the bytes state no mission, for this reason: they are no document, or one that is refused so
abbrev pub StatesNone : List ℕ → NoMission → Type 0
StatesNone bytes NotADocument = (document : Members) → ¬ IsDocument bytes document
StatesNone bytes (Refused reason) = (document : Members) × IsDocument bytes document × IsRefusedWith document reason

-- the mission that reading a document answered, or its refusal as that of its bytes; or want of memory, where that was answered
abbrev pub mission_in : {M : Type 0} → Result M (Stop document.Refused) → Result M (Stop NoMission)
mission_in (Ok mission) = Ok mission
mission_in (Err (stop.Refused reason)) = Err (stop.Refused (Refused reason))
mission_in (Err stop.NoMemory) = Err stop.NoMemory

-- ---- the replies to bytes that state no mission

-- the status and the line of each
abbrev pub reply_to : NoMission → Reply
reply_to NotADocument = record { status = 3; text = codes "not a document\n" }
reply_to (Refused (Scenario rule place)) =
    record { status = 4; text = concat (codes "scenario rule " ∷ decimal rule ∷ codes " at " ∷ decimal place ∷ codes "\n" ∷ []) }
reply_to (Refused (Task task kind at)) =
    record { status = 5; text = concat (codes "task " ∷ decimal task ∷ codes " kind " ∷ decimal kind ∷ codes " at " ∷ decimal at ∷ codes "\n" ∷ []) }
reply_to (Refused (Table size row rule)) =
    record { status = 6; text = concat (codes "table " ∷ decimal size ∷ codes " row " ∷ decimal row ∷ codes " rule " ∷ decimal rule ∷ codes "\n" ∷ []) }
reply_to (Refused (Script entry rule)) =
    record { status = 7; text = concat (codes "script entry " ∷ decimal entry ∷ codes " rule " ∷ decimal rule ∷ codes "\n" ∷ []) }

-- their statuses
abbrev pub no_mission_statuses : List ℕ
no_mission_statuses = 3 ∷ 4 ∷ 5 ∷ 6 ∷ 7 ∷ []

-- ---- what a command about a mission does

-- the most bytes of a document
abbrev pub document_limit : ℕ
document_limit = 1048576

-- the bytes state a mission and the reply is one that is given for it, or they state none and it is the reply to that
abbrev pub LoadsThen : (gives : MissionData → Reply → Type 0) → List ℕ → Reply → Type 0
LoadsThen gives bytes reply = ((mission : MissionData) × States bytes mission × gives mission reply)
    ⊎ ((why : NoMission) × StatesNone bytes why × (reply ≡ reply_to why))

-- what it has to do
abbrev pub mission_duty : (gives : MissionData → Reply → Type 0) → Duty
mission_duty gives = record { limit = Some document_limit; gives = LoadsThen gives }
