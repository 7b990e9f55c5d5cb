-- The laws of all commands, whatever the rows are that they are listed by.
use Rattle.std.specs.Prelude.{ℕ, ◌≡◌, ◌≤◌, ◌⊎◌, List, [], ◌∷◌, ◌++◌, true, Contains, Some, length, get_or}
use Rattle.sift_io.specs.Flow.{Rose}
use Rattle.sift_load.specs.Loads.{States, document_limit}
use Rattle.sift_mission.specs.Data.{MissionData}
use Rattle.sift_reply.specs.Duty.{GivesOneTo, HasOwnStatuses, IsOwedTo, shared_endings}
use Rattle.sift_reply.specs.Laws.{AsksOne}
use Rattle.sift_reply.specs.Promise.{IsAnswered, IsCertain, IsCommandLine}
use Rattle.sift_reply.specs.Reply.{Input, IsGiven, Output, Reply, done_status, no_memory_status, sink_fault_status, usage}
use Rattle.sift_row.specs.Row.{Flies, GivesFor, ReadsMission, statuses_with}
use Rattle.sift_row.specs.Rows.{AreCalm, Rows, all_differ, commands_of, is_among}

module _ {Command : Type 0} (rows : Rows Command) where
  -- ---- what follows of each row

  -- the statuses of a command's replies
  abbrev pub own_statuses : Command → List ℕ
  own_statuses command = statuses_with (rows.does command) (rows.statuses command)

  -- they are its own
  abbrev pub CommandsHaveOwnStatuses : Type 0
  CommandsHaveOwnStatuses = (command : Command) → HasOwnStatuses (rows.duty command) (own_statuses command)

  -- each command gives one reply at most to an input, whatever its workers are; those that fly it, where it states no mission with a storm
  abbrev pub CommandsGiveOne : Type 0
  CommandsGiveOne = (command : Command) (bytes : List ℕ) → (Flies (rows.does command) → AreCalm bytes) → GivesOneTo (rows.duty command) bytes

  -- commands that ask for the same, but for workers and the order in which units step, give one reply to an input; those that fly it, where it
  -- states no mission with a storm
  abbrev pub WorkersDoNotShow : Type 0
  WorkersDoNotShow = (one other : Command) (bytes : List ℕ) (came there : Reply) → rows.by_one one ≡ rows.by_one other
      → (Flies (rows.does one) → AreCalm bytes) → (rows.duty one).gives bytes came → (rows.duty other).gives bytes there → came ≡ there

  -- a command that reads a mission gives to bytes that state it just what it gives for it
  abbrev pub MissionsAreLoaded : Type 0
  MissionsAreLoaded = (command : Command) (bytes : List ℕ) (mission : MissionData) (reply : Reply) → ReadsMission (rows.does command)
      → length bytes ≤ document_limit → States bytes mission → IsOwedTo (rows.duty command) bytes reply → GivesFor (rows.does command) mission reply

  -- it does what was asked for each mission: it reads one, and gives no other status for it
  pub record DoesEachMission (command : Command) : Type 0 where
    pub reads : ReadsMission (rows.does command)
    pub well : rows.statuses command ≡ done_status ∷ []

  -- then its replies for a mission say so
  abbrev pub MissionsAreDone : Type 0
  MissionsAreDone = (command : Command) (mission : MissionData) (reply : Reply) → DoesEachMission command → GivesFor (rows.does command) mission reply
      → reply.status ≡ done_status

  -- all of this holds of rows each of which is kept, and where their words differ words ask for one command at most
  pub record AreKept : Type 0 where
    pub asks : all_differ rows.words ≡ true → AsksOne (commands_of rows)
    pub named : (words : List (List ℕ)) (command : Command) → rows.asks words command → is_among rows.words (get_or words 0 []) ≡ true
    pub own : CommandsHaveOwnStatuses
    pub listed : (command : Command) (status : ℕ) → Contains (rows.statuses command) status → Contains rows.all_statuses status
    pub limited : (command : Command) → Flies (rows.does command) → (rows.duty command).limit ≡ Some document_limit
    pub one : CommandsGiveOne
    pub workers : WorkersDoNotShow
    pub loaded : MissionsAreLoaded
    pub done : MissionsAreDone

  -- ---- how a call ends

  -- a command ends with a status of its own, or a shared one: one that reads also with those of a reader; words that are no command line
  -- end with `usage`, or a fault of the sink
  pub record IsKnown (words : List (List ℕ)) (status : ℕ) : Type 0 where
    pub asked : (command : Command) → rows.asks words command → Contains (own_statuses command ++ shared_endings (rows.duty command).limit) status
    pub other : ¬ IsCommandLine (commands_of rows) words → Contains (usage.status ∷ sink_fault_status ∷ []) status

  -- so it is with each answer
  abbrev pub StatusesAreKnown : Type 0
  StatusesAreKnown = (words : List (List ℕ)) (input : Input) (output : Output) (status : ℕ)
      → IsAnswered (commands_of rows) words input output status → IsKnown words status

  -- words ask for the command, and the input tells that it states the mission, within the limit of documents; neither side failed
  pub record IsStated (words : List (List ℕ)) (command : Command) (input : Input) (output : Output) (mission : MissionData) : Type 0 where
    pub asked : rows.asks words command
    pub bytes : List ℕ
    pub told : input.before.left ≡ Some bytes
    pub short : length bytes ≤ document_limit
    pub stated : States bytes mission
    pub read : ¬ Rose input.before.faults input.after.faults
    pub written : ¬ Rose output.before.faults output.after.faults

  -- an input that states a mission gets a reply that the command gives for it, or memory was wanting
  abbrev pub MissionsAreAnswered : Type 0
  MissionsAreAnswered = (words : List (List ℕ)) (command : Command) (input : Input) (output : Output) (mission : MissionData) (status : ℕ)
      → IsCertain (commands_of rows) words input output status → ReadsMission (rows.does command) → IsStated words command input output mission
      → ((reply : Reply) × GivesFor (rows.does command) mission reply × IsGiven output reply status) ⊎ (status ≡ no_memory_status)

  -- so it gets 0 or 10, where the command does what was asked for each mission
  abbrev pub MissionsEndWell : Type 0
  MissionsEndWell = (words : List (List ℕ)) (command : Command) (input : Input) (output : Output) (mission : MissionData) (status : ℕ)
      → IsCertain (commands_of rows) words input output status → DoesEachMission command → IsStated words command input output mission
      → (status ≡ done_status) ⊎ (status ≡ no_memory_status)
