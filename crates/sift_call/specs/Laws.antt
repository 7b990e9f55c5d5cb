-- That a call tells what the program writes.
use Rattle.std.specs.Prelude.{ℕ, ◌≡◌, ◌≢◌, List, Some}
use Rattle.sift_io.specs.Flow.{Rose}
use Rattle.sift_commands.specs.declared.list.Command.{Command}
use Rattle.sift_reply.specs.Promise.{IsCertain}
use Rattle.sift_reply.specs.Reply.{Input, IsGiven, Output, no_memory_status}
use Rattle.sift_row.specs.Row.{Flies}
use Rattle.sift_row.specs.Rows.{AreCalm}
use Rattle.sift_call.specs.Told.{IsTold, listed, program_commands}

-- words ask for no command that flies its input, or the input states no mission with a storm
abbrev pub AskForCalm : (words : List (List ℕ)) (bytes : List ℕ) → Type 0
AskForCalm words bytes = (command : Command) → program_commands.asks words command → Flies (listed.does command) → AreCalm bytes

-- the program was called with an input of these bytes, it ended so, neither side failed, and memory was there
pub record IsCalled (words : List (List ℕ)) (bytes : List ℕ) (input : Input) (output : Output) (ended : ℕ) : Type 0 where
  pub certain : IsCertain program_commands words input output ended
  pub told : input.before.left ≡ Some bytes
  pub read : ¬ Rose input.before.faults input.after.faults
  pub written : ¬ Rose output.before.faults output.after.faults
  pub memory : ended ≢ no_memory_status

-- what is told by a call is what the program gives then
abbrev pub CallsTellWhatTheProgramWrites : Type 0
CallsTellWhatTheProgramWrites = (words : List (List ℕ)) (bytes text : List ℕ) (status : ℕ) (input : Input) (output : Output) (ended : ℕ)
    → AskForCalm words bytes → IsTold words bytes status text → IsCalled words bytes input output ended
    → IsGiven output (record { status = status; text = text }) ended
