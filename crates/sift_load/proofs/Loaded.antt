-- Bytes state one mission, or none for one reason.
use Rattle.std.proofs.Common.{◌≡◌, Result, Ok, Err, IfOk, IfErr, inl, inr, ℕ, List, ◌++◌, Contains, lit<, refl, sym, ap, ◌∙◌, subst, arith}
use Rattle.std.proofs.lemmas.List.Elements.{Contains-append_left, Contains-append_right}
use Rattle.toml.specs.Data.{Members}
use Rattle.sift_mission.specs.Data.{MissionData}
use Rattle.sift_reply.specs.Reply.{Reply, shared_statuses}
use Rattle.sift_scenario.specs.Laws.{MissionsAreAccepted, OneMission, OneRefusal}
use Rattle.sift_scenario.specs.Mission.{IsMission}
use Rattle.sift_scenario.specs.Refusal.{IsRefusedWith}
use Rattle.sift_scenario.specs.declared.mission.Refused.TheVariants.{Scenario, Task, Table, Script}
use Rattle.sift_load.specs.Laws.{OneMissionIsStated, OneReplyIsGiven, StatedMissionsAreUnrefused, StatusesAreOwn}
use Rattle.sift_base.specs.Stop.{IfRefused}
use Rattle.sift_base.specs.declared.stop.Stop.{Stop}
use Rattle.sift_base.specs.declared.stop.Stop.TheVariants as stop
use Rattle.sift_scenario.specs.declared.mission.Refused as document
use Rattle.sift_load.specs.Loads.{LoadsThen, IsDocument, States, StatesNone, mission_in, no_mission_statuses, reply_to}
use Rattle.sift_load.specs.declared.loading.NoMission.{NoMission}
use Rattle.sift_load.specs.declared.loading.NoMission.TheVariants.{NotADocument, Refused}

-- a document has one tree
one_tree : (bytes : List ℕ) (one other : Members) → IsDocument bytes one → IsDocument bytes other → one ≡ other
one_tree bytes one other reads reads' = cc (reads.1, reads'.1)

-- a document that is refused states no mission, for that reason
pub refused_so :
    {M : Type 0} (bytes : List ℕ) (tree : Members) (read : Result M (Stop document.Refused)) → IsDocument bytes tree
    → IfErr read (IfRefused (IsRefusedWith tree)) → IfErr (mission_in read) (IfRefused (StatesNone bytes))
refused_so bytes tree (Ok mission) reads refused = tt
refused_so bytes tree (Err (stop.Refused reason)) reads refused = (tree, reads, refused)
refused_so bytes tree (Err stop.NoMemory) reads wanting = tt

-- and one that states a mission is that of its bytes
pub stated_so :
    {M : Type 0} (data_in : M → MissionData) (bytes : List ℕ) (tree : Members) (read : Result M (Stop document.Refused)) → IsDocument bytes tree
    → IfOk read (λ mission. IsMission tree (data_in mission)) → IfOk (mission_in read) (λ mission. States bytes (data_in mission))
stated_so data_in bytes tree (Ok mission) reads states = (tree, reads, states)
stated_so data_in bytes tree (Err (stop.Refused reason)) reads states = tt
stated_so data_in bytes tree (Err stop.NoMemory) reads states = tt

-- what is answered where there is no mission is the reply to the reason why the bytes state none
pub replied_so :
    (bytes : List ℕ) (why : Stop NoMission) (answered reply : Reply) → IfRefused (StatesNone bytes) why → IfRefused (λ reason. answered ≡ reply_to reason) why
    → ¬ (why ≡ stop.NoMemory) → reply ≡ answered → (reason : NoMission) × StatesNone bytes reason × (reply ≡ reply_to reason)
replied_so bytes (stop.Refused reason) answered reply none told there is = (reason, none, is ∙ told)
replied_so bytes stop.NoMemory answered reply none told there is = absurd (there refl)

-- bytes state one mission
pub one_stated : OneMission → OneMissionIsStated
one_stated one_mission bytes one other (tree, reads, states) (tree', reads', states') =
    one_mission tree' one other (subst (λ (t : Members). IsMission t one) (one_tree bytes tree tree' reads reads') states) states'

-- bytes that state one aren't refused
pub stated_unrefused : MissionsAreAccepted → StatedMissionsAreUnrefused
stated_unrefused accepted bytes mission NotADocument (tree, reads, states) none = none tree reads
stated_unrefused accepted bytes mission (Refused reason) (tree, reads, states) (tree', reads', refused) =
    accepted tree' mission reason (subst (λ (t : Members). IsMission t mission) (one_tree bytes tree tree' reads reads') states) refused

module _ (one_mission : OneMission) (accepted : MissionsAreAccepted) (one_refusal : OneRefusal) where
  -- bytes are refused for one reason
  one_reason : (bytes : List ℕ) (one other : NoMission) → StatesNone bytes one → StatesNone bytes other → one ≡ other
  one_reason bytes NotADocument NotADocument none none' = refl
  one_reason bytes NotADocument (Refused reason) none (tree, reads, refused) = absurd (none tree reads)
  one_reason bytes (Refused reason) NotADocument (tree, reads, refused) none = absurd (none tree reads)
  one_reason bytes (Refused one) (Refused other) (tree, reads, refused) (tree', reads', refused') =
      ap Refused (one_refusal tree' one other (subst (λ (t : Members). IsRefusedWith t one) (one_tree bytes tree tree' reads reads') refused) refused')

  -- so one reply is given
  pub one_reply : (gives : MissionData → Reply → Type 0) → OneReplyIsGiven gives
  one_reply gives bytes alone one other (inl (mission, states, given)) (inl (mission', states', given')) =
      alone mission' one other states' (subst (λ (m : MissionData). gives m one) (one_stated one_mission bytes mission mission' states states') given) given'
  one_reply gives bytes alone one other (inl (mission, states, given)) (inr (why, none, is)) = absurd (stated_unrefused accepted bytes mission why states none)
  one_reply gives bytes alone one other (inr (why, none, is)) (inl (mission, states, given)) = absurd (stated_unrefused accepted bytes mission why states none)
  one_reply gives bytes alone one other (inr (why, none, is)) (inr (why', none', is')) =
      is ∙ (ap reply_to (one_reason bytes why why' none none') ∙ sym is')

-- ---- statuses

-- the reply to bytes that state no mission has one of its five statuses
known : (why : NoMission) → Contains no_mission_statuses (reply_to why).status
known NotADocument = (0, lit< tt, refl)
known (Refused (Scenario rule place)) = (1, lit< tt, refl)
known (Refused (Task task kind at)) = (2, lit< tt, refl)
known (Refused (Table size row rule)) = (3, lit< tt, refl)
known (Refused (Script entry rule)) = (4, lit< tt, refl)

-- which aren't shared
apart : (why : NoMission) → ¬ Contains shared_statuses (reply_to why).status
apart NotADocument = grind arith
apart (Refused (Scenario rule place)) = grind arith
apart (Refused (Task task kind at)) = grind arith
apart (Refused (Table size row rule)) = grind arith
apart (Refused (Script entry rule)) = grind arith

module _ (gives : MissionData → Reply → Type 0) (statuses : List ℕ)
    (own : (mission : MissionData) (reply : Reply) → gives mission reply → Contains statuses reply.status × ¬ Contains shared_statuses reply.status) where
  -- the reply that came is one for a mission, or to bytes that state none
  among : (bytes : List ℕ) (reply : Reply) → LoadsThen gives bytes reply → Contains (statuses ++ no_mission_statuses) reply.status
  among bytes reply (inl (mission, states, given)) = Contains-append_left statuses no_mission_statuses reply.status (own mission reply given).0
  among bytes reply (inr (why, none, is)) =
      Contains-append_right statuses no_mission_statuses reply.status
      (subst (λ (r : Reply). Contains no_mission_statuses r.status) (sym is) (known why))

  other : (bytes : List ℕ) (reply : Reply) → LoadsThen gives bytes reply → ¬ Contains shared_statuses reply.status
  other bytes reply (inl (mission, states, given)) = (own mission reply given).1
  other bytes reply (inr (why, none, is)) = subst (λ (r : Reply). ¬ Contains shared_statuses r.status) (sym is) (apart why)

-- a command whose replies for a mission have these statuses, none of them shared, has these and those of bytes that state none
pub statuses_are_own : (gives : MissionData → Reply → Type 0) → StatusesAreOwn gives
statuses_are_own gives statuses own = record { among = among gives statuses own; apart = other gives statuses own }
