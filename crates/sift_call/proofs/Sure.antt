-- What follows of an answer that was written to an empty room.
use Rattle.std.proofs.Common.{◌≡◌, ◌≢◌, ℕ, ◌⊎◌, inl, inr, List, [], ◌++◌, drop, Some, refl, ap, ◌∙◌, subst, arith}
use Rattle.std.specs.Io.KnownBytes.{Appends}
use Rattle.sift_io.specs.Flow.{Inflow, Rose}
use Rattle.sift_rogue.specs.Rogues.{AllowsDrawn}
use Rattle.sift_rogue.specs.declared.storm.Storm.{Storm}
use Rattle.sift_alone.specs.Flown.{flying_with}
use Rattle.sift_alone.specs.Given.{resting_storms}
use Rattle.sift_commands.specs.Command.{commands}
use Rattle.sift_reply.specs.Duty.{IsOwedTo}
use Rattle.sift_reply.specs.Promise.{IsCertain, IsOwed}
use Rattle.sift_reply.specs.Reply.{Input, IsGiven, Output, Reply, no_memory_status, read_fault, sink_fault_status}
use Rattle.sift_call.specs.Room.{bytes_of, outflow_of}
use Rattle.sift_call.specs.Told.{IsTold, program_commands}
use Rattle.sift_call.specs.declared.room.RoomOut.{RoomOut}

-- the bytes in a room that was empty are those that were added
all_there : (old new : RoomOut) (text : List ℕ) → bytes_of old ≡ [] → Appends (outflow_of old).written (outflow_of new).written text → bytes_of new ≡ text
all_there old new text empty added = ap (drop 1) added ∙ ap (λ (xs : List ℕ). xs ++ text) empty

-- a reply is its status with its text
as_told : (reply : Reply) (status : ℕ) (text : List ℕ) → status ≡ reply.status → text ≡ reply.text → reply ≡ record { status = status; text = text }
as_told reply status text is are = rw is (rw are refl)

module _ (words : List (List ℕ)) (before after : Inflow) (old new : RoomOut) (status : ℕ) where
  abbrev came : Input
  came = record { before = before; after = after }

  abbrev went : Output
  went = record { before = outflow_of old; after = outflow_of new }

  -- neither side failed, and memory was there: what was given is told
  pub told : (input : List ℕ) → before.left ≡ Some input → before.faults ≡ 0 → after.faults ≡ 0 → bytes_of old ≡ [] → status ≢ sink_fault_status → status ≢ no_memory_status
      → (storms : List Storm) → storms ≡ resting_storms → IsCertain (commands (flying_with AllowsDrawn storms)) words came went status → IsTold words input status (bytes_of new)
  told input tells calm sure empty nine ten storms rest certain =
      by (subst (λ (them : List Storm). IsCertain (commands (flying_with AllowsDrawn them)) words came went status) rest certain input tells)
    where
      by : ((reply : Reply) × IsOwed program_commands words (λ duty. IsOwedTo duty input) reply × IsGiven went reply status)
          ⊎ (IsGiven went read_fault status × Rose before.faults after.faults)
          ⊎ ((status ≡ sink_fault_status) × Rose (outflow_of old).faults (outflow_of new).faults)
          ⊎ (status ≡ no_memory_status)
          → IsTold words input status (bytes_of new)
      by (inl (reply, owed, is)) =
          subst (λ (it : Reply). IsOwed program_commands words (λ duty. IsOwedTo duty input) it)
          (as_told reply status (bytes_of new) is.0 (all_there old new reply.text empty is.1)) owed
      by (inr (inl (is, inl rose))) = absurd (omega (arith, rose, sure, calm))
      by (inr (inl (is, inr last))) = absurd (omega (arith, last, sure))
      by (inr (inr (inl (is, rose)))) = absurd (nine is)
      by (inr (inr (inr is))) = absurd (ten is)
