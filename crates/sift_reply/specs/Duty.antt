-- What a command has to do, and what it owes then.
use Rattle.std.specs.Prelude.{ℕ, ◌≡◌, ◌≤◌, ◌<◌, ◌+◌, ◌⊎◌, List, [], ◌∷◌, length, Option, Some, None, Contains}
use Rattle.sift_io.specs.Flow.{Rose}
use Rattle.sift_io.specs.Reading.{TakesAll, TakesAtMost, TakesExactly}
use Rattle.sift_reply.specs.Reply.{Input, Reply, no_memory_status, read_fault, shared_statuses, sink_fault_status, too_long}

-- the most bytes that a command reads, where it reads at all, and the replies that it may give to the whole input
pub record Duty : Type 1 where
  pub limit : Option ℕ
  pub gives : List ℕ → Reply → Type 0

-- ---- what is owed for what was read

-- a reply that it gives to the input, which was read to its end; or one byte past its limit was read; or the source failed before. Without
-- a limit nothing is read, and the input counts as empty
abbrev pub Owes : Duty → Input → Reply → Type 0
Owes duty input reply = elim duty.limit [
  | None ↦ duty.gives [] reply
  | Some limit ↦
      ((bytes : List ℕ) × TakesAll input.before input.after bytes limit × duty.gives bytes reply)
      ⊎ ((reply ≡ too_long) × TakesExactly input.before input.after (limit + 1))
      ⊎ ((reply ≡ read_fault) × Rose input.before.faults input.after.faults × TakesAtMost input.before input.after limit)
]

-- no more was read than the limit; without one, nothing
abbrev pub ReadsWithin : (limit : Option ℕ) → Input → Type 0
ReadsWithin None input = input.after ≡ input.before
ReadsWithin (Some limit) input = TakesAtMost input.before input.after limit

-- these bytes are the whole input, which was read to its end within the limit; without one they are none
abbrev pub IsWhole : (limit : Option ℕ) → Input → List ℕ → Type 0
IsWhole None input bytes = bytes ≡ []
IsWhole (Some limit) input bytes = TakesAll input.before input.after bytes limit

-- what a command with this limit takes for the input, where the source has these bytes: without one, nothing
abbrev pub input_within : (limit : Option ℕ) → List ℕ → List ℕ
input_within None bytes = []
input_within (Some limit) bytes = bytes

-- ---- what is owed to the bytes of an input that tells them

-- a reply that it gives to them, or they are too many
abbrev pub IsOwedTo : Duty → List ℕ → Reply → Type 0
IsOwedTo duty bytes reply = elim duty.limit [
  | None ↦ duty.gives [] reply
  | Some limit ↦ ((length bytes ≤ limit) × duty.gives bytes reply) ⊎ ((limit < length bytes) × (reply ≡ too_long))
]

-- they are owed one reply at most
abbrev pub OwesOneTo : Duty → List ℕ → Type 0
OwesOneTo duty bytes = (one other : Reply) → IsOwedTo duty bytes one → IsOwedTo duty bytes other → one ≡ other

-- ---- how a command ends

-- the shared statuses with which a command ends that has this limit: those of a reader, and those of every command
abbrev pub shared_endings : (limit : Option ℕ) → List ℕ
shared_endings None = sink_fault_status ∷ no_memory_status ∷ []
shared_endings (Some limit) = read_fault.status ∷ sink_fault_status ∷ no_memory_status ∷ too_long.status ∷ []

-- it may end with this status: with that of a reply that it gives, or with a shared one
abbrev pub MayEndWith : Duty → (status : ℕ) → Type 0
MayEndWith duty status =
    ((bytes : List ℕ) × (reply : Reply) × duty.gives bytes reply × (status ≡ reply.status)) ⊎ Contains (shared_endings duty.limit) status

-- ---- laws of a command

-- no reply that it gives has a shared status
abbrev pub SharesNoStatus : Duty → Type 0
SharesNoStatus duty = (bytes : List ℕ) (reply : Reply) → duty.gives bytes reply → ¬ Contains shared_statuses reply.status

-- the replies that it gives have these statuses, and none of them is shared
pub record HasOwnStatuses (duty : Duty) (statuses : List ℕ) : Type 0 where
  pub among : (bytes : List ℕ) (reply : Reply) → duty.gives bytes reply → Contains statuses reply.status
  pub apart : SharesNoStatus duty

-- it gives one reply at most to an input of these bytes
abbrev pub GivesOneTo : Duty → List ℕ → Type 0
GivesOneTo duty bytes = (one other : Reply) → duty.gives bytes one → duty.gives bytes other → one ≡ other

-- and to each input
abbrev pub GivesOne : Duty → Type 0
GivesOne duty = (bytes : List ℕ) → GivesOneTo duty bytes
