-- What follows of what a command reads and gives for all that it has to do.
use Rattle.std.proofs.Common.{◌≡◌, ◌≤◌, inl, inr, ℕ, List, [], ◌∷◌, length, Contains, Some, refl, subst, ap, sym, arith}
use Rattle.std.proofs.lemmas.Grind.{common_steps}
use Rattle.sift_load.proofs.lemmas.Loading.{one_reply, statuses_are_own}
use Rattle.sift_load.specs.Laws.{OneMissionIsStated, StatedMissionsAreUnrefused}
use Rattle.sift_load.specs.Loads.{LoadsThen, States, document_limit}
use Rattle.sift_mission.specs.Data.{MissionData}
use Rattle.sift_reply.specs.Duty.{HasOwnStatuses, IsOwedTo}
use Rattle.sift_reply.specs.Reply.{Reply, done_status}
use Rattle.sift_scenario.specs.Laws.{MissionsAreAccepted, OneMission, OneRefusal}
use Rattle.sift_row.specs.Row.{Reads, Nothing, Mission, Bytes, AreOne, Flies, GiveOneReply, GivesFor, GivesStatuses, ReadsMission, duty_of, statuses_with}
use Rattle.sift_row.specs.Rows.{AreCalm}

-- its statuses are its own
pub own : (does : Reads) (statuses : List ℕ) → GivesStatuses does statuses → HasOwnStatuses (duty_of does) (statuses_with does statuses)
own (Nothing gives) statuses have = record { among = λ bytes reply gave. (have reply gave).0; apart = λ bytes reply gave. (have reply gave).1 }
own (Mission flies gives) statuses have = statuses_are_own gives statuses have
own (Bytes limit gives) statuses have =
    record { among = λ bytes reply gave. (have bytes reply gave).0; apart = λ bytes reply gave. (have bytes reply gave).1 }

module _ (missions : OneMission) (accepted : MissionsAreAccepted) (refusals : OneRefusal) (one_stated : OneMissionIsStated)
    (unrefused : StatedMissionsAreUnrefused) where
  -- two commands that give one reply for missions give one to bytes
  loads_one : (gives others : MissionData → Reply → Type 0) (bytes : List ℕ)
      → ((mission : MissionData) → States bytes mission → AreOne (gives mission) (others mission)) → AreOne (LoadsThen gives bytes) (LoadsThen others bytes)
  loads_one gives others bytes alone came there (inl (mission, states, gave)) (inl (other, stated, given)) =
      alone mission states came there gave (subst (λ (m : MissionData). others m there) (one_stated bytes other mission stated states) given)
  loads_one gives others bytes alone came there (inl (mission, states, gave)) (inr (why, none, is)) = absurd (unrefused bytes mission why states none)
  loads_one gives others bytes alone came there (inr (why, none, is)) (inl (mission, states, gave)) = absurd (unrefused bytes mission why states none)
  loads_one gives others bytes alone came there (inr refused) (inr also) =
      one_reply missions accepted refusals (λ mission reply. ⊥) bytes (λ mission a b states none. absurd none) came there (inr refused) (inr also)

  -- jobs that give one reply to all that they read give one to calm bytes
  pub one : (one other : Reads) → GiveOneReply one other → (bytes : List ℕ) → (Flies one → AreCalm bytes)
      → AreOne ((duty_of one).gives bytes) ((duty_of other).gives bytes)
  one (Nothing gives) (Nothing others) alone bytes calm = alone
  one (Nothing gives) (Mission fly others) alone bytes calm = absurd alone
  one (Nothing gives) (Bytes most others) alone bytes calm = absurd alone
  one (Mission flies gives) (Nothing others) alone bytes calm = absurd alone
  one (Mission flies gives) (Mission fly others) alone bytes calm =
      loads_one gives others bytes (λ mission states. alone bytes mission states (λ flown. calm flown mission states))
  one (Mission flies gives) (Bytes most others) alone bytes calm = absurd alone
  one (Bytes limit gives) (Nothing others) alone bytes calm = absurd alone
  one (Bytes limit gives) (Mission fly others) alone bytes calm = absurd alone
  one (Bytes limit gives) (Bytes most others) alone bytes calm = alone bytes

-- what flies a mission reads a document
pub limited : (does : Reads) → Flies does → (duty_of does).limit ≡ Some document_limit
limited (Nothing gives) flies = absurd flies
limited (Mission flown gives) flies = refl
limited (Bytes limit gives) flies = absurd flies

-- one status is that of a list that has no other
only : (x y : ℕ) → Contains (y ∷ []) x → x ≡ y
only x y (k, low, is) = let first : k ≡ 0 = omega (arith, low) in sym (rw first at is)

-- where it gives no status for missions but 0, its replies for them have that
pub done : (does : Reads) (statuses : List ℕ) → GivesStatuses does statuses → statuses ≡ done_status ∷ [] → (mission : MissionData) (reply : Reply)
    → GivesFor does mission reply → reply.status ≡ done_status
done (Nothing gives) statuses have well mission reply gave = absurd gave
done (Mission flies gives) statuses have well mission reply gave =
    only reply.status done_status (subst (λ (xs : List ℕ). Contains xs reply.status) well (have mission reply gave).0)
done (Bytes limit gives) statuses have well mission reply gave = absurd gave

module _ (one_stated : OneMissionIsStated) (unrefused : StatedMissionsAreUnrefused) where
  -- what loading gives to bytes that state a mission is given for it
  of_it : (gives : MissionData → Reply → Type 0) (bytes : List ℕ) (mission : MissionData) (reply : Reply)
      → States bytes mission → LoadsThen gives bytes reply → gives mission reply
  of_it gives bytes mission reply stated (inl (other, states, gave)) =
      subst (λ (m : MissionData). gives m reply) (one_stated bytes other mission states stated) gave
  of_it gives bytes mission reply stated (inr (why, none, is)) = absurd (unrefused bytes mission why stated none)

  -- a reply that is owed to them by a command which reads a mission is given for it
  pub loaded : (does : Reads) (bytes : List ℕ) (mission : MissionData) (reply : Reply) → ReadsMission does → length bytes ≤ document_limit
      → States bytes mission → IsOwedTo (duty_of does) bytes reply → GivesFor does mission reply
  loaded (Nothing gives) bytes mission reply reads short stated owed = absurd reads
  loaded (Mission flies gives) bytes mission reply reads short stated (inl (few, gave)) = of_it gives bytes mission reply stated gave
  loaded (Mission flies gives) bytes mission reply reads short stated (inr (many, is)) = absurd (omega (arith, short, many))
  loaded (Bytes limit gives) bytes mission reply reads short stated owed = absurd reads
