-- Replies, the input that is read, and what is written.
use Rattle.std.specs.Prelude.{ℕ, ◌≡◌, List, codes, [], ◌∷◌}
use Rattle.std.specs.Io.KnownBytes.{Appends}
use Rattle.sift_io.specs.Flow.{Inflow, Outflow, Rose}
use Rattle.sift_io.specs.Writing.{AddsPrefix}

-- ---- replies

-- an exit status, and the text that is written with it
pub record Reply : Type 0 where
  pub status : ℕ
  pub text : List ℕ

-- the status of a command that has done what was asked
abbrev pub done_status : ℕ
done_status = 0

-- the reply of such a command: the text that was asked for
abbrev pub done : (text : List ℕ) → Reply
done text = record { status = done_status; text = text }

-- ---- what every command shares

-- the reply to words that are no command line
abbrev pub usage : Reply
usage = record { status = 2; text = codes "usage\n" }

-- the reply to an input that can't be read to its end
abbrev pub read_fault : Reply
read_fault = record { status = 8; text = codes "read fault\n" }

-- the reply to an input with more bytes than the command reads
abbrev pub too_long : Reply
too_long = record { status = 11; text = codes "too long\n" }

-- the status where the sink failed within the text of a reply
abbrev pub sink_fault_status : ℕ
sink_fault_status = 9

-- the status where memory was wanting, and nothing was written
abbrev pub no_memory_status : ℕ
no_memory_status = 10

-- the statuses that mean the same whatever the command is: those of three replies, and two that come in place of a reply
abbrev pub shared_statuses : List ℕ
shared_statuses = usage.status ∷ read_fault.status ∷ sink_fault_status ∷ no_memory_status ∷ too_long.status ∷ []

-- ---- the input

-- what became of a source in a call
pub record Input : Type 0 where
  pub before : Inflow
  pub after : Inflow

-- ---- what is written

-- what became of a sink in a call
pub record Output : Type 0 where
  pub before : Outflow
  pub after : Outflow

-- the text was written
abbrev pub IsWritten : Output → (text : List ℕ) → Type 0
IsWritten output text = Appends output.before.written output.after.written text

-- the reply was given: its status, with its whole text written; and the sink counted no fault
abbrev pub IsGiven : Output → Reply → (status : ℕ) → Type 0
IsGiven output reply status = (status ≡ reply.status) × IsWritten output reply.text × (output.after.faults ≡ output.before.faults)

-- the sink failed after a prefix of the reply's text, and the status says so
abbrev pub IsBroken : Output → Reply → (status : ℕ) → Type 0
IsBroken output reply status =
    (status ≡ sink_fault_status) × Rose output.before.faults output.after.faults × AddsPrefix output.before output.after reply.text
