-- What a call over memory tells.
use Rattle.std.specs.Prelude.{ℕ, List}
use Rattle.sift_rogue.specs.Rogues.{AllowsDrawn}
use Rattle.sift_alone.specs.Flown.{flying_with}
use Rattle.sift_alone.specs.Given.{resting_storms}
use Rattle.sift_commands.specs.Command.{commands, program}
use Rattle.sift_commands.specs.declared.list.Command.{Command}
use Rattle.sift_reply.specs.Duty.{IsOwedTo}
use Rattle.sift_reply.specs.Promise.{Commands, IsOwed}
use Rattle.sift_row.specs.Rows.{Rows}

-- the commands of the program, whose stray units store what its storms draw
abbrev pub listed : Rows Command
listed = program (flying_with AllowsDrawn resting_storms)

-- which words ask for each, and what it has to do
abbrev pub program_commands : Commands Command
program_commands = commands (flying_with AllowsDrawn resting_storms)

-- the status and the text are those of a reply that is owed to this input by these words
abbrev pub IsTold : (words : List (List ℕ)) (input : List ℕ) (status : ℕ) (text : List ℕ) → Type 0
IsTold words input status text = IsOwed program_commands words (λ duty. IsOwedTo duty input) (record { status = status; text = text })

-- no reply has a higher status
abbrev pub last_status : ℕ
last_status = 17
