-- What comes where an input tells its bytes.
use Rattle.std.proofs.Common.{◌≡◌, ◌⊎◌, inl, inr, ℕ, List, Some, subst}
use Rattle.sift_reply.specs.Duty.{IsOwedTo, Owes}
use Rattle.sift_io.specs.Flow.{Rose}
use Rattle.sift_reply.specs.Reply.{Input, IsGiven, Output, Reply, read_fault}
use Rattle.sift_reply.specs.Promise.{Commands, IsAnswered, IsCertain, IsOwed}
use Rattle.sift_reply.proofs.Inputs.{owed_to_bytes}

module _ {Command : Type 0} (commands : Commands Command) (words : List (List ℕ)) (input : Input) (output : Output) (status : ℕ) where
  -- what is owed to what was read is due to the bytes, or the source failed
  due : (bytes : List ℕ) (reply : Reply) → input.before.left ≡ Some bytes → IsOwed commands words (λ duty. Owes duty input) reply
      → IsOwed commands words (λ duty. IsOwedTo duty bytes) reply ⊎ ((reply ≡ read_fault) × Rose input.before.faults input.after.faults)
  due bytes reply told (inl other) = inl (inl other)
  due bytes reply told (inr asked) =
      elim (owed_to_bytes (commands.duty asked.0).limit (commands.duty asked.0).gives input bytes reply told asked.2) [
        | inl owed ↦ inl (inr (asked.0, asked.1, owed))
        | inr failed ↦ inr failed
      ]

  -- what is certain follows from what is answered
  pub certain : IsAnswered commands words input output status → IsCertain commands words input output status
  certain (inl (reply, owed, inl given)) bytes told = elim (due bytes reply told owed) [
    | inl is ↦ inl (reply, is, given)
    | inr failed ↦ inr (inl (subst (λ (r : Reply). IsGiven output r status) failed.0 given, failed.1))
  ]
  certain (inl (reply, owed, inr broken)) bytes told = inr (inr (inl (broken.0, broken.1)))
  certain (inr wanting) bytes told = inr (inr (inr wanting.0))
