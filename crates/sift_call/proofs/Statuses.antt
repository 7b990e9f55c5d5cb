-- Which statuses a reply may have.
use Rattle.std.proofs.Common.{◌≡◌, ◌≤◌, ◌<◌, ℕ, ◌⊎◌, inl, inr, List, [], length, get_or, Contains, Option, Some, None, All, ap, refl, arith}
use Rattle.std.proofs.lemmas.List.Elements.{All-contains}
use Rattle.std.proofs.lemmas.Bool.{leb-true}
use Rattle.std.proofs.lemmas.Grind.{common_steps}
use Rattle.std.proofs.lemmas.List.Sums.{AllPass-from_list_all}
use Rattle.std.specs.Prelude.{nat_le}
use Rattle.sift_load.specs.Loads.{no_mission_statuses}
use Rattle.sift_commands.specs.declared.list.Command.{Command}
use Rattle.sift_reply.specs.Duty.{Duty, HasOwnStatuses, IsOwedTo}
use Rattle.sift_reply.specs.Reply.{Reply, too_long}
use Rattle.sift_row.specs.Laws.{AreKept, own_statuses}
use Rattle.sift_row.specs.Row.{Reads, Nothing, Mission, Bytes, statuses_with}
use Rattle.sift_call.specs.Told.{IsTold, last_status, listed}

-- the status is one that a reply may have
abbrev IsLow : ℕ → Type 0
IsLow status = status ≤ last_status

-- all that are listed are
all_low : All IsLow listed.all_statuses
all_low = λ k d here. leb-true _ _ (AllPass-from_list_all (λ status. nat_le status last_status) listed.all_statuses refl k d here)

-- and so are those with the ones of bytes that state no mission
with_others : (does : Reads) (statuses : List ℕ) → All IsLow statuses → All IsLow (statuses_with does statuses)
with_others (Nothing gives) statuses all = all
with_others (Mission flies gives) statuses all = let others : All IsLow no_mission_statuses = grind (arith, common_steps) in grind (arith, common_steps)
with_others (Bytes limit gives) statuses all = all

-- each one that is among those of a list that are low is
from_each : (statuses : List ℕ) → ((status : ℕ) → Contains statuses status → IsLow status) → All IsLow statuses
from_each statuses low k d here = low (get_or statuses k d) (k, here, grind (arith, common_steps))

low : AreKept listed → (command : Command) → All IsLow (own_statuses listed command)
low kept command = with_others (listed.does command) (listed.statuses command)
    (from_each (listed.statuses command) (λ status has. All-contains IsLow listed.all_statuses status all_low (kept.listed command status has)))

-- and so is that of what is owed
owed : (duty : Duty) (statuses : List ℕ) (input : List ℕ) (reply : Reply) → HasOwnStatuses duty statuses → All (λ status. status ≤ last_status) statuses
    → (limit : Option ℕ) → duty.limit ≡ limit → IsOwedTo duty input reply → reply.status ≤ last_status
owed duty statuses input reply own all None is owes = All-contains (λ status. status ≤ last_status) statuses reply.status all (own.among [] reply (rw is at owes))
owed duty statuses input reply own all (Some limit) is owes = by (rw is at owes)
  where
    by : ((length input ≤ limit) × duty.gives input reply) ⊎ ((limit < length input) × (reply ≡ too_long)) → reply.status ≤ last_status
    by (inl (short, gives)) = All-contains (λ status. status ≤ last_status) statuses reply.status all (own.among input reply gives)
    by (inr (long, said)) = rw said (omega arith)

pub known : AreKept listed → (words : List (List ℕ)) (input : List ℕ) (status : ℕ) (text : List ℕ) → IsTold words input status text → status ≤ last_status
known kept words input status text (inl (none, is)) = let two : status ≡ 2 = ap (λ (r : Reply). r.status) is in omega (arith, two)
known kept words input status text (inr (command, asks, owes)) =
    owed (listed.duty command) (own_statuses listed command) input (record { status = status; text = text }) (kept.own command) (low kept command) _ refl owes
