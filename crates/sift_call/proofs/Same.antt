-- That what is owed to an input is one reply.
use Rattle.std.proofs.Common.{◌≡◌, ℕ, ◌⊎◌, List, inl, inr, sym, ◌∙◌, subst}
use Rattle.sift_io.specs.Flow.{Rose}
use Rattle.sift_commands.specs.declared.list.Command.{Command}
use Rattle.sift_reply.specs.Duty.{IsOwedTo, input_within}
use Rattle.sift_reply.specs.Laws.{AsksOne, GivesOneOwesOne}
use Rattle.sift_reply.specs.Promise.{IsOwed}
use Rattle.sift_reply.specs.Reply.{IsGiven, Reply, no_memory_status, read_fault, sink_fault_status}
use Rattle.sift_row.specs.Laws.{AreKept}
use Rattle.sift_row.specs.Row.{Flies}
use Rattle.sift_row.specs.Rows.{AreCalm}
use Rattle.sift_call.specs.Told.{listed, program_commands}
use Rattle.sift_call.specs.Laws.{AskForCalm, CallsTellWhatTheProgramWrites}

module _ (one_command : AsksOne program_commands) (kept : AreKept listed) (owe_one : (command : Command) → GivesOneOwesOne (listed.duty command)) where
  -- what a command that flies its input takes for it is all of it
  calm : (command : Command) (bytes : List ℕ) → (Flies (listed.does command) → AreCalm bytes) → Flies (listed.does command)
      → AreCalm (input_within (listed.duty command).limit bytes)
  calm command bytes are flies = rw (kept.limited command flies) (are flies)

  -- two replies that are owed to calm bytes are one
  one : (words : List (List ℕ)) (bytes : List ℕ) (a b : Reply) → AskForCalm words bytes
      → IsOwed program_commands words (λ owing. IsOwedTo owing bytes) a → IsOwed program_commands words (λ owing. IsOwedTo owing bytes) b → a ≡ b
  one words bytes a b are (inl (none, is)) (inl (_, also)) = is ∙ sym also
  one words bytes a b are (inl (none, is)) (inr (command, asks, owes)) = absurd (none (command, asks))
  one words bytes a b are (inr (command, asks, owes)) (inl (none, is)) = absurd (none (command, asks))
  one words bytes a b are (inr (command, asks, owes)) (inr (other, asked, owed)) =
      let same = one_command words other command asked asks in
      owe_one command bytes (kept.one command (input_within (listed.duty command).limit bytes) (calm command bytes (are command asks))) a b owes
      (subst (λ (it : Command). IsOwedTo (listed.duty it) bytes b) same owed)

  -- where neither side failed and memory was there, what is told is what was given
  pub same : CallsTellWhatTheProgramWrites
  same words bytes text status input output ended are told called = by (called.certain bytes called.told)
    where
      by : ((reply : Reply) × IsOwed program_commands words (λ owing. IsOwedTo owing bytes) reply × IsGiven output reply ended)
          ⊎ (IsGiven output read_fault ended × Rose input.before.faults input.after.faults)
          ⊎ ((ended ≡ sink_fault_status) × Rose output.before.faults output.after.faults)
          ⊎ (ended ≡ no_memory_status)
          → IsGiven output (record { status = status; text = text }) ended
      by (inl (reply, owed, is)) = subst (λ (it : Reply). IsGiven output it ended) (one words bytes reply (record { status = status; text = text }) are owed told) is
      by (inr (inl (is, rose))) = absurd (called.read rose)
      by (inr (inr (inl (is, rose)))) = absurd (called.written rose)
      by (inr (inr (inr is))) = absurd (called.memory is)
