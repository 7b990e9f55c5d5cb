-- What each status says: laws of the promise, whatever the commands are.
use Rattle.std.specs.Prelude.{ℕ, ◌≡◌, ◌≢◌, ◌⊎◌, List, [], ◌∷◌, Contains, None, Some}
use Rattle.sift_io.specs.Flow.{Rose}
use Rattle.sift_reply.specs.Duty.{Duty, GivesOne, GivesOneTo, IsOwedTo, IsWhole, MayEndWith, Owes, OwesOneTo, SharesNoStatus, input_within}
use Rattle.sift_reply.specs.Reply.{Input, IsBroken, IsGiven, IsWritten, Output, Reply, no_memory_status, read_fault, shared_statuses, sink_fault_status, usage}
use Rattle.sift_reply.specs.Promise.{Commands, IsAnswered, IsCommandLine, IsOwed, MayWant}

module _ {Command : Type 0} (commands : Commands Command) where
  -- words ask for one command at most
  abbrev pub AsksOne : Type 0
  AsksOne = (words : List (List ℕ)) (one other : Command) → commands.asks words one → commands.asks words other → one ≡ other

  -- no command gives a reply with a shared status
  abbrev pub ShareNoStatus : Type 0
  ShareNoStatus = (command : Command) → SharesNoStatus (commands.duty command)

  -- a status says all this of the words, the input and the output
  pub record IsExplained (words : List (List ℕ)) (input : Input) (output : Output) (status : ℕ) : Type 0 where
    -- it is one with which the command may end that the words ask for
    pub known : (command : Command) → commands.asks words command → MayEndWith (commands.duty command) status
    -- one that isn't shared comes with a reply of the command that the words ask for
    pub given : (command : Command) → commands.asks words command → ¬ Contains shared_statuses status
        → (bytes : List ℕ) × (reply : Reply) × IsWhole (commands.duty command).limit input bytes × (commands.duty command).gives bytes reply
        × IsGiven output reply status
    -- but for a fault of the sink and want of memory, it is that of a reply that is owed, which was given
    pub owed : status ≢ sink_fault_status → status ≢ no_memory_status
        → (reply : Reply) × IsOwed commands words (λ duty. Owes duty input) reply × IsGiven output reply status
    -- the sink failed within a reply that is owed
    pub cut : status ≡ sink_fault_status → (reply : Reply) × IsOwed commands words (λ duty. Owes duty input) reply × IsBroken output reply status
    -- memory was wanting for a command, and nothing was written
    pub no_memory : status ≡ no_memory_status → MayWant commands words input × IsWritten output []
    -- words that are no command line get `usage`, or a fault of the sink
    pub usage : ¬ IsCommandLine commands words → Contains (usage.status ∷ sink_fault_status ∷ []) status
    -- bytes that are told and are owed one reply get it, or there is a fault or want of memory
    pub due : (bytes : List ℕ) (command : Command) (reply : Reply) → input.before.left ≡ Some bytes → commands.asks words command
        → OwesOneTo (commands.duty command) bytes → IsOwed commands words (λ duty. IsOwedTo duty bytes) reply
        → IsGiven output reply status ⊎ Contains (read_fault.status ∷ sink_fault_status ∷ no_memory_status ∷ []) status
    -- where neither side fails they get it, or memory is wanting
    pub sure : (bytes : List ℕ) (command : Command) (reply : Reply) → input.before.left ≡ Some bytes → commands.asks words command
        → OwesOneTo (commands.duty command) bytes → IsOwed commands words (λ duty. IsOwedTo duty bytes) reply
        → ¬ Rose input.before.faults input.after.faults → ¬ Rose output.before.faults output.after.faults
        → IsGiven output reply status ⊎ (status ≡ no_memory_status)
    -- a command that reads nothing gets its one reply, whatever the source is, or the sink fails, or memory is wanting
    pub unread : (command : Command) (reply : Reply) → commands.asks words command → GivesOne (commands.duty command)
        → (commands.duty command).limit ≡ None → (commands.duty command).gives [] reply
        → IsGiven output reply status ⊎ ((status ≡ sink_fault_status) × Rose output.before.faults output.after.faults) ⊎ (status ≡ no_memory_status)

  -- each answer is explained, where words ask for one command and no command gives a shared status
  abbrev pub StatusesAreExplained : Type 0
  StatusesAreExplained = AsksOne → ShareNoStatus
      → (words : List (List ℕ)) (input : Input) (output : Output) (status : ℕ) → IsAnswered commands words input output status
      → IsExplained words input output status

-- a command that gives one reply to an input owes one to its bytes
abbrev pub GivesOneOwesOne : Duty → Type 0
GivesOneOwesOne duty = (bytes : List ℕ) → GivesOneTo duty (input_within duty.limit bytes) → OwesOneTo duty bytes
