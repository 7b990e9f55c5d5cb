-- What a command is: its row.
use Rattle.std.specs.Prelude.{ℕ, ◌≡◌, List, ◌∷◌, ◌++◌, ⊤, Bool, true, Contains, Option, Some, None}
use Rattle.sift_flight.specs.Flight.{HasNoStorms}
use Rattle.sift_load.specs.Loads.{States, mission_duty, no_mission_statuses}
use Rattle.sift_mission.specs.Data.{MissionData}
use Rattle.sift_mission.specs.Flown.{flown}
use Rattle.sift_options.specs.Options.{Allowed, AreOptions, Given, numbers_in}
use Rattle.sift_reply.specs.Duty.{Duty}
use Rattle.sift_reply.specs.Reply.{Reply, shared_statuses}

-- ---- what a command reads, and what it gives to that

-- nothing; a mission, which it flies or doesn't; or bytes, at most so many: and the replies that it may give then
pub data Reads : Type 1 where
  Nothing : (gives : Reply → Type 0) → Reads
  Mission : (flies : Bool) → (gives : MissionData → Reply → Type 0) → Reads
  Bytes : (limit : ℕ) → (gives : List ℕ → Reply → Type 0) → Reads

-- so it has this to do
abbrev pub duty_of : Reads → Duty
duty_of (Nothing gives) = record { limit = None; gives = λ bytes. gives }
duty_of (Mission flies gives) = mission_duty gives
duty_of (Bytes limit gives) = record { limit = Some limit; gives = gives }

-- it flies the mission that its input states
abbrev pub Flies : Reads → Type 0
Flies (Nothing gives) = ⊥
Flies (Mission flies gives) = flies ≡ true
Flies (Bytes limit gives) = ⊥

-- what it reads is a mission alone
abbrev pub ReadsMission : Reads → Type 0
ReadsMission (Nothing gives) = ⊥
ReadsMission (Mission flies gives) = ⊤
ReadsMission (Bytes limit gives) = ⊥

-- the replies that it gives for a mission, where it reads one
abbrev pub GivesFor : Reads → MissionData → Reply → Type 0
GivesFor (Nothing gives) mission reply = ⊥
GivesFor (Mission flies gives) mission reply = gives mission reply
GivesFor (Bytes limit gives) mission reply = ⊥

-- the statuses of its replies, where those to what it reads have these: bytes that state no mission have their own
abbrev pub statuses_with : Reads → List ℕ → List ℕ
statuses_with (Nothing gives) statuses = statuses
statuses_with (Mission flies gives) statuses = statuses ++ no_mission_statuses
statuses_with (Bytes limit gives) statuses = statuses

-- ---- a row

-- a command's word, and the options that it may have; the job that these ask for; what a job reads and gives; the statuses of that; and the
-- same job by one worker, whose units step in order 0
pub record Row (Job : Type 0) : Type 1 where
  pub word : List ℕ
  pub flags : List Allowed
  pub job_of : Given → Option Job
  pub does : Job → Reads
  pub statuses : List ℕ
  pub by_one : Job → Job

-- the words are its word and options that it may have, and ask for this job
pub record Asks {Job : Type 0} (row : Row Job) (words : List (List ℕ)) (job : Job) : Type 0 where
  pub rest : List (List ℕ)
  pub words_are : words ≡ row.word ∷ rest
  pub options : AreOptions row.flags rest
  pub asked : row.job_of (numbers_in rest) ≡ Some job

-- ---- what a row has to keep

-- each of these replies has one of these statuses, which isn't shared
abbrev pub HaveStatuses : List ℕ → (Reply → Type 0) → Type 0
HaveStatuses statuses gives = (reply : Reply) → gives reply → Contains statuses reply.status × ¬ Contains shared_statuses reply.status

-- there is one at most of both
abbrev pub AreOne : (gives others : Reply → Type 0) → Type 0
AreOne gives others = (one other : Reply) → gives one → others other → one ≡ other

-- all that a command reads gets replies with these statuses
abbrev pub GivesStatuses : Reads → List ℕ → Type 0
GivesStatuses (Nothing gives) statuses = HaveStatuses statuses gives
GivesStatuses (Mission flies gives) statuses = (mission : MissionData) → HaveStatuses statuses (gives mission)
GivesStatuses (Bytes limit gives) statuses = (bytes : List ℕ) → HaveStatuses statuses (gives bytes)

-- two jobs give one reply to all that they read; to a mission that is flown, where it has no storm
abbrev pub GiveOneReply : (one other : Reads) → Type 0
GiveOneReply (Nothing gives) (Nothing others) = AreOne gives others
GiveOneReply (Mission flies gives) (Mission fly others) =
    (bytes : List ℕ) (mission : MissionData) → States bytes mission → (flies ≡ true → HasNoStorms (flown mission)) → AreOne (gives mission) (others mission)
GiveOneReply (Bytes limit gives) (Bytes most others) = (bytes : List ℕ) → AreOne (gives bytes) (others bytes)
GiveOneReply one other = ⊥

-- so it is with jobs of a row that are the same by one worker; and each has the row's statuses
pub record IsKept {Job : Type 0} (row : Row Job) : Type 0 where
  pub own : (job : Job) → GivesStatuses (row.does job) row.statuses
  pub one : (one other : Job) → row.by_one one ≡ row.by_one other → GiveOneReply (row.does one) (row.does other)
