-- What is certain of an input that tells its bytes.
use Rattle.std.proofs.Common.{◌≡◌, ◌∙◌, ◌≤◌, ℕ, List, length, Option, Some, None, inl, inr, ap, sym, subst, arith, ◌+◌}
use Rattle.std.proofs.lemmas.List.{append-nil, length-append}
use Rattle.std.specs.Io.KnownBytes.{Consumes, IsAtEnd}
use Rattle.sift_io.specs.Flow.{Inflow, Outflow}
use Rattle.sift_reread.specs.Answer.{IsAnswered, IsAnsweredTo, IsCertain, report_limit}
use Rattle.sift_reread.specs.declared.ending.Ending.{Ending}

-- what was taken of known bytes, to their end, is these bytes
all_taken : (old new : Option (List ℕ)) (bytes all : List ℕ) → old ≡ Some bytes → Consumes old new all → IsAtEnd new → all ≡ bytes
all_taken None new bytes all told taken end = cc
all_taken (Some xs) None bytes all told taken end = absurd taken
all_taken (Some xs) (Some ys) bytes all told taken end =
    let whole : xs ≡ all = rw end at taken ∙ append-nil all in
    cc

-- no more is taken than there is
taken_within : (old new : Option (List ℕ)) (bytes some : List ℕ) → old ≡ Some bytes → Consumes old new some → length some ≤ length bytes
taken_within None new bytes some told taken = cc
taken_within (Some xs) None bytes some told taken = absurd taken
taken_within (Some xs) (Some ys) bytes some told taken =
    let same : xs ≡ bytes = cc in
    let whole : length bytes ≡ length some + length ys = ap length (sym same ∙ taken) ∙ length-append some ys in
    omega arith

-- what is certain follows from what is answered
pub certain : (in_before in_after : Inflow) (out_before out_after : Outflow) (ending : Ending)
    → IsAnswered in_before in_after out_before out_after ending → IsCertain in_before in_after out_before out_after ending
certain in_before in_after out_before out_after ending (inl read) bytes told =
    let same = all_taken in_before.left in_after.left bytes read.0 told read.1.0 read.1.1 in
    inl (subst (λ (bs : List ℕ). (length bs ≤ report_limit) × IsAnsweredTo out_before out_after bs ending) same (read.1.2, read.2))
certain in_before in_after out_before out_after ending (inr (inl long)) bytes told =
    let within = taken_within in_before.left in_after.left bytes long.1.0 told long.1.1 in
    inr (inl (omega (arith, long.1.2, within), long.0, long.2))
certain in_before in_after out_before out_after ending (inr (inr (inl fault))) bytes told = inr (inr (inl (fault.0, fault.1, fault.3)))
certain in_before in_after out_before out_after ending (inr (inr (inr wanting))) bytes told = inr (inr (inr (wanting.0, wanting.2)))
