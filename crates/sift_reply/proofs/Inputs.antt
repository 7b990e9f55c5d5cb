-- The bytes of an input that are told.
use Rattle.std.proofs.Common.{◌≡◌, ◌≤◌, ◌+◌, ◌⊎◌, inl, inr, ℕ, List, length, Option, Some, None, sym, ◌∙◌, ap, subst, arith}
use Rattle.std.proofs.lemmas.List.{append-nil, length-append}
use Rattle.std.specs.Io.KnownBytes.{Consumes, IsAtEnd}
use Rattle.sift_io.specs.Flow.{Rose}
use Rattle.sift_reply.specs.Duty.{Duty, IsOwedTo, Owes}
use Rattle.sift_reply.specs.Reply.{Input, Reply, read_fault}

-- what was taken of known bytes, to their end, is these bytes
all_taken :
    (old new : Option (List ℕ)) (bytes all : List ℕ)
    → old ≡ Some bytes → Consumes old new all → IsAtEnd new → all ≡ bytes
all_taken None new bytes all told taken end = cc
all_taken (Some xs) None bytes all told taken end = absurd taken
all_taken (Some xs) (Some ys) bytes all told taken end =
    let whole : xs ≡ all = rw end at taken ∙ append-nil all in
    cc

-- no more is taken than there is
taken_within :
    (old new : Option (List ℕ)) (bytes some : List ℕ)
    → old ≡ Some bytes → Consumes old new some → length some ≤ length bytes
taken_within None new bytes some told taken = cc
taken_within (Some xs) None bytes some told taken = absurd taken
taken_within (Some xs) (Some ys) bytes some told taken =
    let same : xs ≡ bytes = cc in
    let whole : length bytes ≡ length some + length ys = ap length (sym same ∙ taken) ∙ length-append some ys in
    omega arith

-- a reply that is owed to what was read is owed to the bytes that were told, or the source failed
pub owed_to_bytes :
    (limit : Option ℕ) (gives : List ℕ → Reply → Type 0) (input : Input) (bytes : List ℕ) (reply : Reply)
    → input.before.left ≡ Some bytes → Owes (record { limit = limit; gives = gives }) input reply
    → IsOwedTo (record { limit = limit; gives = gives }) bytes reply ⊎ ((reply ≡ read_fault) × Rose input.before.faults input.after.faults)
owed_to_bytes None gives input bytes reply told owes = inl owes
owed_to_bytes (Some limit) gives input bytes reply told (inl given) =
    let same = all_taken input.before.left input.after.left bytes given.0 told given.1.0 given.1.1 in
    inl (inl (subst (λ (bs : List ℕ). length bs ≤ limit) same given.1.2, subst (λ (bs : List ℕ). gives bs reply) same given.2))
owed_to_bytes (Some limit) gives input bytes reply told (inr (inl long)) =
    let within = taken_within input.before.left input.after.left bytes long.1.0 told long.1.1 in
    inl (inr (omega (arith, long.1.2, within), long.0))
owed_to_bytes (Some limit) gives input bytes reply told (inr (inr failed)) = inr (failed.0, failed.1)

-- what a command owes that has this limit
pub owes_within :
    (limit : ℕ) (duty : Duty) (input : Input) (reply : Reply)
    → Some limit ≡ duty.limit → Owes (record { limit = Some limit; gives = duty.gives }) input reply → Owes duty input reply
owes_within limit duty input reply is owes = subst (λ (l : Option ℕ). Owes (record { limit = l; gives = duty.gives }) input reply) is owes
