-- The promise of the whole call.
use Rattle.std.specs.Prelude.{ℕ, ◌≡◌, ◌⊎◌, List, [], None, Some}
use Rattle.sift_io.specs.Flow.{Rose}
use Rattle.sift_reply.specs.Duty.{Duty, IsOwedTo, Owes, ReadsWithin}
use Rattle.sift_reply.specs.Reply.{Input, IsBroken, IsGiven, IsWritten, Output, Reply, no_memory_status, read_fault, sink_fault_status, usage}

-- the commands that there are: which one words ask for, and what each has to do
pub record Commands (Command : Type 0) : Type 1 where
  pub asks : List (List ℕ) → Command → Type 0
  pub duty : Command → Duty

module _ {Command : Type 0} (commands : Commands Command) (words : List (List ℕ)) where
  -- the words are a command line
  abbrev pub IsCommandLine : Type 0
  IsCommandLine = (command : Command) × commands.asks words command

  -- they ask for no command that reads the input
  abbrev pub AskForNoInput : Type 0
  AskForNoInput = (command : Command) → commands.asks words command → (commands.duty command).limit ≡ None

  -- to words that are no command line `usage` is owed, and else what the command owes, in this sense, that they ask for
  abbrev pub IsOwed : (owes : Duty → Reply → Type 0) → Reply → Type 0
  IsOwed owes reply = (¬ IsCommandLine × (reply ≡ usage))
      ⊎ ((command : Command) × commands.asks words command × owes (commands.duty command) reply)

  -- ---- what is answered, by what was read

  -- memory may be wanting: the words ask for a command, and no more was read than it reads
  abbrev pub MayWant : Input → Type 0
  MayWant input = (command : Command) × commands.asks words command × ReadsWithin (commands.duty command).limit input

  -- a reply that is owed was given, or was cut short by a fault of the sink; or memory was wanting, and nothing was written
  abbrev pub IsAnswered : Input → Output → (status : ℕ) → Type 0
  IsAnswered input output status =
      ((reply : Reply) × IsOwed (λ duty. Owes duty input) reply × (IsGiven output reply status ⊎ IsBroken output reply status))
      ⊎ ((status ≡ no_memory_status) × IsWritten output [] × MayWant input)

  -- ---- what is certain, by the bytes of an input that tells them

  -- where the input tells its bytes, a reply that is owed to them was given; or the source failed, or the sink, or memory was wanting
  abbrev pub IsCertain : Input → Output → (status : ℕ) → Type 0
  IsCertain input output status = (bytes : List ℕ) → input.before.left ≡ Some bytes →
      ((reply : Reply) × IsOwed (λ duty. IsOwedTo duty bytes) reply × IsGiven output reply status)
      ⊎ (IsGiven output read_fault status × Rose input.before.faults input.after.faults)
      ⊎ ((status ≡ sink_fault_status) × Rose output.before.faults output.after.faults)
      ⊎ (status ≡ no_memory_status)
