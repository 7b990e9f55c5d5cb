-- Which command may end with which status, whatever the rows are.
use Rattle.std.proofs.Common.{inl, inr, ℕ, ◌++◌, Contains, sym, subst}
use Rattle.std.proofs.lemmas.List.Elements.{Contains-append_left, Contains-append_right}
use Rattle.sift_reply.specs.Duty.{MayEndWith, shared_endings}
use Rattle.sift_reply.specs.Laws.{AsksOne, ShareNoStatus, StatusesAreExplained}
use Rattle.sift_row.specs.Laws.{CommandsHaveOwnStatuses, StatusesAreKnown, own_statuses}
use Rattle.sift_row.specs.Rows.{Rows, commands_of}

module _ {Command : Type 0} (rows : Rows Command) where
  -- a status with which a command may end is one of its own, or a shared one of its kind
  among : CommandsHaveOwnStatuses rows → (command : Command) (status : ℕ) → MayEndWith (rows.duty command) status
      → Contains (own_statuses rows command ++ shared_endings (rows.duty command).limit) status
  among own command status (inl (bytes, reply, gives, is)) =
      Contains-append_left (own_statuses rows command) (shared_endings (rows.duty command).limit) status
      (subst (λ (n : ℕ). Contains (own_statuses rows command) n) (sym is) ((own command).among bytes reply gives))
  among own command status (inr shared) = Contains-append_right (own_statuses rows command) (shared_endings (rows.duty command).limit) status shared

  -- each command ends with a status of its own or a shared one of its kind; words that are no command line end with `usage`, or a fault of the sink
  pub known : AsksOne (commands_of rows) → CommandsHaveOwnStatuses rows → ShareNoStatus (commands_of rows) → StatusesAreExplained (commands_of rows)
      → StatusesAreKnown rows
  known one own apart explained words input output status answered =
      let here = explained one apart words input output status answered in
      record { asked = λ command asks. among own command status (here.known command asks); other = here.usage }
