-- The laws of what a document is answered with.
use Rattle.std.specs.Prelude.{codes, ◌≡◌, ◌⊎◌, ◌↔◌, ℕ, [], Some}
use Rattle.std.specs.List.{All}
use Rattle.toml.specs.Data.{Members, get_member}
use Rattle.sift_document.specs.Document.{tables_in}
use Rattle.sift_document.specs.Rules.{BreaksFirst, HoldsOf}
use Rattle.sift_scenario.specs.declared.mission.Refused.{Refused}
use Rattle.sift_sections.specs.Fault.{from_of, stated_storm, unit_of}
use Rattle.sift_scenario.specs.Mission.{rules_of, IsLawful, IsMission}
use Rattle.sift_scenario.specs.Refusal.{IsRefusedWith}
use Rattle.sift_scenario.specs.Root.{version_of}
use Rattle.sift_mission.specs.Data.{MissionData}
use Rattle.sift_mission.specs.PartsFit.{PartsFit}
use Rattle.sift_script.specs.Faults.{storm_of}
use Rattle.sift_script.specs.Script.{turning}
use Rattle.sift_script.specs.declared.script.StormEntry.{StormEntry}

-- a document that states a mission isn't refused
abbrev pub MissionsAreAccepted : Type 0
MissionsAreAccepted = (document : Members) (mission : MissionData) (refused : Refused) → IsMission document mission → ¬ IsRefusedWith document refused

-- a document is refused in one way
abbrev pub OneRefusal : Type 0
OneRefusal = (document : Members) (one other : Refused) → IsRefusedWith document one → IsRefusedWith document other → one ≡ other

-- a document states at most one mission
abbrev pub OneMission : Type 0
OneMission = (document : Members) (one other : MissionData) → IsMission document one → IsMission document other → one ≡ other

-- the parts of the mission that a document states fit
abbrev pub StatedMissionsFit : Type 0
StatedMissionsFit = (document : Members) (mission : MissionData) → IsMission document mission → PartsFit mission

-- the fault is this storm of this unit: it comes in the storm's first frame, begins by its number, and has as many strays
pub record IsStormOf (u : ℕ) (storm : StormEntry) (fault : Members) : Type 0 where
  pub unit : unit_of fault ≡ Some u
  pub comes : from_of fault ≡ Some storm.from
  pub turns : stated_storm fault ≡ Some (Some (turning storm.number storm.strays))

-- one of the faults of the document is such a storm
abbrev pub StatesStorm : (document : Members) (u : ℕ) (storm : StormEntry) → Type 0
StatesStorm document u storm =
    (place : ℕ) × HoldsOf (tables_in (get_member (codes "fault") document)) place (IsStormOf u storm)

-- the storms of the mission that a document states are those that the document states
abbrev pub StormsAreStated : Type 0
StormsAreStated = (document : Members) (mission : MissionData) (u : ℕ) (storm : StormEntry) → IsMission document mission →
    (storm_of mission.script.faults u ≡ Some storm) ↔ StatesStorm document u storm

-- a document of version 1 sheds nothing: no table of its mission leaves out a task
abbrev pub VersionOneShedsNothing : Type 0
VersionOneShedsNothing = (document : Members) (mission : MissionData) → version_of document ≡ Some 1 → IsMission document mission
    → All (λ table. table.shed ≡ []) mission.tables

-- a document keeps all rules, or one is the first that it breaks, at a first place
abbrev pub RulesAreKeptOrBroken : Type 0
RulesAreKeptOrBroken = (document : Members) → IsLawful document ⊎ ((number place : ℕ) × BreaksFirst (rules_of document) number place)

-- what a document is: it states a mission, or is refused
pub data HasAnswer (document : Members) : Type 0 where
  a_mission : (mission : MissionData) → IsMission document mission → HasAnswer document
  a_refusal : (refused : Refused) → IsRefusedWith document refused → HasAnswer document

-- no document is without an answer other than want of memory
abbrev pub NoDocumentIsUnanswered : Type 0
NoDocumentIsUnanswered = (document : Members) → ¬ ¬ HasAnswer document
