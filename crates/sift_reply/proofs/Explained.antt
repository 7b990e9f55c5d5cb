-- What each status says.
use Rattle.std.proofs.Common.{◌≡◌, ◌≢◌, ◌⊎◌, inl, inr, ℕ, List, [], Option, None, Some, Contains, lit<, refl, sym, ap, ◌∙◌, subst, arith}
use Rattle.sift_reply.specs.Duty.{GivesOne, GivesOneTo, IsOwedTo, IsWhole, MayEndWith, Owes, OwesOneTo, input_within, shared_endings}
use Rattle.sift_reply.specs.Reply.{Input, IsBroken, IsGiven, IsWritten, Output, Reply, no_memory_status, read_fault, shared_statuses, sink_fault_status, too_long, usage}
use Rattle.sift_reply.specs.Laws.{AsksOne, ShareNoStatus, IsExplained, StatusesAreExplained}
use Rattle.sift_reply.specs.Promise.{Commands, IsAnswered, IsCommandLine, IsOwed, MayWant}
use Rattle.sift_reply.proofs.Certain.{certain}

-- ---- one command

-- replies that are the same have one status
status : (one other : Reply) → one ≡ other → one.status ≡ other.status
status one other same = ap (λ (r : Reply). r.status) same

-- a reply that is owed is one that is given, or the input was too long, or the source failed
given_or_shared : (limit : Option ℕ) (gives : List ℕ → Reply → Type 0) (input : Input) (reply : Reply)
    → Owes (record { limit = limit; gives = gives }) input reply
    → ((bytes : List ℕ) × gives bytes reply) ⊎ (reply ≡ too_long) ⊎ (reply ≡ read_fault)
given_or_shared None gives input reply owes = inl ([], owes)
given_or_shared (Some limit) gives input reply (inl owes) = inl (owes.0, owes.2)
given_or_shared (Some limit) gives input reply (inr (inl long)) = inr (inl long.0)
given_or_shared (Some limit) gives input reply (inr (inr failed)) = inr (inr failed.0)

-- one that has no shared status is given to the whole input
given_whole : (limit : Option ℕ) (gives : List ℕ → Reply → Type 0) (input : Input) (reply : Reply)
    → Owes (record { limit = limit; gives = gives }) input reply
    → ¬ Contains shared_statuses reply.status → (bytes : List ℕ) × IsWhole limit input bytes × gives bytes reply
given_whole None gives input reply owes own = ([], refl, owes)
given_whole (Some limit) gives input reply (inl owes) own = owes
given_whole (Some limit) gives input reply (inr (inl long)) own = absurd (own (4, lit< tt, sym (status _ _ long.0)))
given_whole (Some limit) gives input reply (inr (inr failed)) own = absurd (own (1, lit< tt, sym (status _ _ failed.0)))

-- its status is one with which the command may end
ends : (limit : Option ℕ) (gives : List ℕ → Reply → Type 0) (input : Input) (reply : Reply)
    → Owes (record { limit = limit; gives = gives }) input reply
    → MayEndWith (record { limit = limit; gives = gives }) reply.status
ends None gives input reply owes = inl ([], reply, owes, refl)
ends (Some limit) gives input reply (inl owes) = inl (owes.0, reply, owes.2, refl)
ends (Some limit) gives input reply (inr (inl long)) = inr (3, lit< tt, sym (status _ _ long.0))
ends (Some limit) gives input reply (inr (inr failed)) = inr (0, lit< tt, sym (status _ _ failed.0))

-- a fault of the sink and want of memory may end each
ends_broken : (limit : Option ℕ) → Contains (shared_endings limit) sink_fault_status
ends_broken None = (0, lit< tt, refl)
ends_broken (Some limit) = (1, lit< tt, refl)

ends_wanting : (limit : Option ℕ) → Contains (shared_endings limit) no_memory_status
ends_wanting None = (1, lit< tt, refl)
ends_wanting (Some limit) = (2, lit< tt, refl)

-- bytes are owed one reply by a command that gives one to their input
pub one_owed : (limit : Option ℕ) (gives : List ℕ → Reply → Type 0) (bytes : List ℕ) (one other : Reply)
    → GivesOneTo (record { limit = limit; gives = gives }) (input_within limit bytes)
    → IsOwedTo (record { limit = limit; gives = gives }) bytes one → IsOwedTo (record { limit = limit; gives = gives }) bytes other → one ≡ other
one_owed None gives bytes one other alone a b = alone one other a b
one_owed (Some limit) gives bytes one other alone (inl a) (inl b) = alone one other a.1 b.1
one_owed (Some limit) gives bytes one other alone (inl a) (inr b) = absurd (omega (arith, a.0, b.0))
one_owed (Some limit) gives bytes one other alone (inr a) (inl b) = absurd (omega (arith, a.0, b.0))
one_owed (Some limit) gives bytes one other alone (inr a) (inr b) = a.1 ∙ sym b.1

-- what is owed by a command that reads nothing is given
given_unread : (limit : Option ℕ) (gives : List ℕ → Reply → Type 0) (input : Input) (reply : Reply) → limit ≡ None
    → Owes (record { limit = limit; gives = gives }) input reply → gives [] reply
given_unread None gives input reply none owes = owes
given_unread (Some limit) gives input reply none owes = absurd (cc)

-- ---- all commands

module _ {Command : Type 0} (commands : Commands Command) (one : AsksOne commands) (own : ShareNoStatus commands)
    (words : List (List ℕ)) (input : Input) (output : Output) (ended : ℕ) where
  -- a reply that is owed for what was read, and one that is due to bytes
  abbrev Owed : Reply → Type 0
  Owed reply = IsOwed commands words (λ duty. Owes duty input) reply

  abbrev Due : List ℕ → Reply → Type 0
  Due bytes reply = IsOwed commands words (λ duty. IsOwedTo duty bytes) reply

  -- what is owed to words is owed by the command that they ask for
  owed_by : (command : Command) (reply : Reply) → commands.asks words command → Owed reply → Owes (commands.duty command) input reply
  owed_by command reply asks (inl other) = absurd (other.0 (command, asks))
  owed_by command reply asks (inr owed) =
      subst (λ (c : Command). Owes (commands.duty c) input reply) (one words owed.0 command owed.1 asks) owed.2

  -- a reply that is owed tells of no fault of the sink, and of no want of memory
  apart : (reply : Reply) → Owed reply → (reply.status ≢ sink_fault_status) × (reply.status ≢ no_memory_status)
  apart reply (inl other) = let e = status _ _ other.1 in (λ is. omega (arith, e, is), λ is. omega (arith, e, is))
  apart reply (inr owed) =
      elim (given_or_shared (commands.duty owed.0).limit (commands.duty owed.0).gives input reply owed.2) [
        | inl gives ↦ (λ is. own owed.0 gives.0 reply gives.1 (2, lit< tt, sym is), λ is. own owed.0 gives.0 reply gives.1 (3, lit< tt, sym is))
        | inr (inl long) ↦ let e = status _ _ long in (λ is. omega (arith, e, is), λ is. omega (arith, e, is))
        | inr (inr failed) ↦ let e = status _ _ failed in (λ is. omega (arith, e, is), λ is. omega (arith, e, is))
      ]

  -- it ends the command that the words ask for
  owed_ends : (command : Command) (reply : Reply) → commands.asks words command → Owed reply → ended ≡ reply.status
      → MayEndWith (commands.duty command) ended
  owed_ends command reply asks owed is =
      subst (λ (n : ℕ). MayEndWith (commands.duty command) n) (sym is)
      (ends (commands.duty command).limit (commands.duty command).gives input reply (owed_by command reply asks owed))

  -- where its status isn't shared, the command gave it to the whole input
  owed_gave : (command : Command) (reply : Reply) → commands.asks words command → Owed reply → IsGiven output reply ended
      → ¬ Contains shared_statuses ended
      → (bytes : List ℕ) × (came : Reply) × IsWhole (commands.duty command).limit input bytes × (commands.duty command).gives bytes came × IsGiven output came ended
  owed_gave command reply asks owed given apart =
      let whole = given_whole (commands.duty command).limit (commands.duty command).gives input reply (owed_by command reply asks owed)
      (subst (λ (n : ℕ). ¬ Contains shared_statuses n) given.0 apart) in
      (whole.0, reply, whole.1, whole.2, given)

  -- words that are no command line are owed `usage` alone
  owed_usage : (reply : Reply) → Owed reply → ¬ IsCommandLine commands words → reply ≡ usage
  owed_usage reply (inl other) none = other.1
  owed_usage reply (inr owed) none = absurd (none (owed.0, owed.1))

  -- one reply is due to bytes that are owed one
  one_due : (bytes : List ℕ) (command : Command) (reply came : Reply) → commands.asks words command → OwesOneTo (commands.duty command) bytes
      → Due bytes reply → Due bytes came → came ≡ reply
  one_due bytes command reply came asks alone (inl other) b = absurd (other.0 (command, asks))
  one_due bytes command reply came asks alone (inr a) (inl other) = absurd (other.0 (command, asks))
  one_due bytes command reply came asks alone (inr a) (inr b) =
      let Has : Reply → Command → Type 0 = λ r c. IsOwedTo (commands.duty c) bytes r in
      alone came reply (subst (Has came) (one words b.0 command b.1 asks) b.2) (subst (Has reply) (one words a.0 command a.1 asks) a.2)

  -- a command that reads nothing owes its one reply
  one_unread : (command : Command) (reply came : Reply) → commands.asks words command → GivesOne (commands.duty command)
      → (commands.duty command).limit ≡ None → (commands.duty command).gives [] reply → Owed came → came ≡ reply
  one_unread command reply came asks alone none gives owed =
      alone [] came reply
      (given_unread (commands.duty command).limit (commands.duty command).gives input came none (owed_by command came asks owed)) gives

  -- the reply that came is the one that was wanted
  given_as : (wanted came : Reply) → came ≡ wanted → IsGiven output came ended → IsGiven output wanted ended
  given_as wanted came same given = subst (λ (r : Reply). IsGiven output r ended) same given

  -- ---- the three answers

  -- a reply that is owed was given
  explained_given : (reply : Reply) → Owed reply → IsGiven output reply ended → IsExplained commands words input output ended
  explained_given reply owed given = record {
    known = λ command asks. owed_ends command reply asks owed given.0;
    given = λ command asks apart. owed_gave command reply asks owed given apart;
    owed = λ a b. (reply, owed, given);
    cut = λ is. absurd ((apart reply owed).0 (sym given.0 ∙ is));
    no_memory = λ is. absurd ((apart reply owed).1 (sym given.0 ∙ is));
    usage = λ none. (0, lit< tt, sym (given.0 ∙ status _ _ (owed_usage reply owed none)));
    due = λ bytes command wanted told asks alone due. elim (certain commands words input output ended (inl (reply, owed, inl given)) bytes told) [
      | inl came ↦ inl (given_as wanted came.0 (one_due bytes command wanted came.0 asks alone due came.1) came.2)
      | inr (inl failed) ↦ inr (0, lit< tt, sym failed.0.0)
      | inr (inr (inl broken)) ↦ inr (1, lit< tt, sym broken.0)
      | inr (inr (inr wanting)) ↦ inr (2, lit< tt, sym wanting)
    ];
    sure = λ bytes command wanted told asks alone due calm_source calm_sink.
        elim (certain commands words input output ended (inl (reply, owed, inl given)) bytes told) [
          | inl came ↦ inl (given_as wanted came.0 (one_due bytes command wanted came.0 asks alone due came.1) came.2)
          | inr (inl failed) ↦ absurd (calm_source failed.1)
          | inr (inr (inl broken)) ↦ absurd (calm_sink broken.1)
          | inr (inr (inr wanting)) ↦ inr wanting
        ];
    unread = λ command wanted asks alone none gives. inl (given_as wanted reply (one_unread command wanted reply asks alone none gives owed) given);
  }

  -- the sink failed within a reply that is owed
  explained_broken : (reply : Reply) → Owed reply → ended ≡ sink_fault_status → IsBroken output reply ended
      → IsExplained commands words input output ended
  explained_broken reply owed is cuts = record {
    known = λ command asks. inr (subst (λ (n : ℕ). Contains (shared_endings (commands.duty command).limit) n) (sym is) (ends_broken (commands.duty command).limit));
    given = λ command asks apart. absurd (apart (2, lit< tt, sym is));
    owed = λ a b. absurd (a is);
    cut = λ _. (reply, owed, cuts);
    no_memory = λ wants. absurd (omega (arith, is, wants));
    usage = λ none. (1, lit< tt, sym is);
    due = λ bytes command wanted told asks alone due. inr (1, lit< tt, sym is);
    sure = λ bytes command wanted told asks alone due calm_source calm_sink. absurd (calm_sink cuts.1);
    unread = λ command wanted asks alone none gives. inr (inl (is, cuts.1));
  }

  -- memory was wanting
  explained_wanting : ended ≡ no_memory_status → IsWritten output [] → MayWant commands words input → IsExplained commands words input output ended
  explained_wanting is kept wants = record {
    known = λ command asks. inr (subst (λ (n : ℕ). Contains (shared_endings (commands.duty command).limit) n) (sym is) (ends_wanting (commands.duty command).limit));
    given = λ command asks apart. absurd (apart (3, lit< tt, sym is));
    owed = λ a b. absurd (b is);
    cut = λ broken. absurd (omega (arith, is, broken));
    no_memory = λ _. (wants, kept);
    usage = λ none. absurd (none (wants.0, wants.1));
    due = λ bytes command wanted told asks alone due. inr (2, lit< tt, sym is);
    sure = λ bytes command wanted told asks alone due calm_source calm_sink. inr is;
    unread = λ command wanted asks alone none gives. inr (inr is);
  }

  explained : IsAnswered commands words input output ended → IsExplained commands words input output ended
  explained (inl (reply, owed, inl given)) = explained_given reply owed given
  explained (inl (reply, owed, inr broken)) = explained_broken reply owed broken.0 broken
  explained (inr wanting) = explained_wanting wanting.0 wanting.1 wanting.2

-- so it is with each answer
pub statuses_are_explained : {Command : Type 0} (commands : Commands Command) → StatusesAreExplained commands
statuses_are_explained commands one own words input output ended answered = explained commands one own words input output ended answered
