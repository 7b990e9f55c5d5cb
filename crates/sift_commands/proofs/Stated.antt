-- What an input is answered that states a mission, whatever the rows are.
use Rattle.std.proofs.Common.{◌≡◌, ◌⊎◌, inl, inr, ℕ, List, ◌∙◌, subst}
use Rattle.sift_io.specs.Flow.{Rose}
use Rattle.sift_mission.specs.Data.{MissionData}
use Rattle.sift_reply.specs.Duty.{IsOwedTo}
use Rattle.sift_reply.specs.Laws.{AsksOne}
use Rattle.sift_reply.specs.Promise.{IsOwed}
use Rattle.sift_reply.specs.Reply.{Input, IsGiven, Output, Reply, done_status, no_memory_status, read_fault, sink_fault_status}
use Rattle.sift_row.specs.Laws.{AreKept, IsStated, MissionsAreAnswered, MissionsEndWell}
use Rattle.sift_row.specs.Row.{GivesFor, ReadsMission}
use Rattle.sift_row.specs.Rows.{Rows, commands_of}

module _ {Command : Type 0} (rows : Rows Command) (one : AsksOne (commands_of rows)) (kept : AreKept rows) where
  -- a reply that is due to bytes that state a mission is given for it by the command that reads it
  due : (words : List (List ℕ)) (command : Command) (input : Input) (output : Output) (mission : MissionData) (reply : Reply)
      → ReadsMission (rows.does command) → (is : IsStated rows words command input output mission)
      → IsOwed (commands_of rows) words (λ duty. IsOwedTo duty is.bytes) reply → GivesFor (rows.does command) mission reply
  due words command input output mission reply reads is (inl (none, usage)) = absurd (none (command, is.asked))
  due words command input output mission reply reads is (inr (other, asks, owes)) =
      kept.loaded command is.bytes mission reply reads is.short is.stated
      (subst (λ (c : Command). IsOwedTo (rows.duty c) is.bytes reply) (one words other command asks is.asked) owes)

  -- an input that states a mission gets a reply that the command gives for it, or memory was wanting
  pub answered : MissionsAreAnswered rows
  answered words command input output mission status certain reads is = came (certain is.bytes is.told)
    where
      came : ((reply : Reply) × IsOwed (commands_of rows) words (λ duty. IsOwedTo duty is.bytes) reply × IsGiven output reply status)
          ⊎ (IsGiven output read_fault status × Rose input.before.faults input.after.faults)
          ⊎ ((status ≡ sink_fault_status) × Rose output.before.faults output.after.faults)
          ⊎ (status ≡ no_memory_status)
          → ((reply : Reply) × GivesFor (rows.does command) mission reply × IsGiven output reply status) ⊎ (status ≡ no_memory_status)
      came (inl (reply, is_due, gave)) = inl (reply, due words command input output mission reply reads is is_due, gave)
      came (inr (inl (gave, rose))) = absurd (is.read rose)
      came (inr (inr (inl (cut, rose)))) = absurd (is.written rose)
      came (inr (inr (inr wanting))) = inr wanting

  -- so a command that does what was asked for each mission ends well
  pub end_well : MissionsEndWell rows
  end_well words command input output mission status certain does is = by (answered words command input output mission status certain does.reads is)
    where
      by : ((reply : Reply) × GivesFor (rows.does command) mission reply × IsGiven output reply status) ⊎ (status ≡ no_memory_status)
          → (status ≡ done_status) ⊎ (status ≡ no_memory_status)
      by (inl (reply, gave, written)) = inl (written.0 ∙ kept.done command mission reply does gave)
      by (inr wanting) = inr wanting
