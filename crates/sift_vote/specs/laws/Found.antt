-- The search for a majority finds it.
use Rattle.std.proofs.Common.{◌≡◌, ◌≢◌, ℕ, ◌*◌, ◌<◌, inl, inr, List, [], ◌∷◌, length, false, Option, None, Some, refl, sym, ap, ◌∙◌, subst, arith}
use Rattle.std.specs.Prelude.{nat_lt, unwrap_or}
use Rattle.std.proofs.lemmas.Bool.{cases_Bool, ltb-true, lt-ltb}
use Rattle.std.proofs.lemmas.Bool.Decides.{eqb_tells}
use Rattle.std.proofs.lemmas.Option.{none-some, same_Some}
use Rattle.sift_base.specs.laws.Counts.{count-no, count-cons}
use Rattle.sift_vote.specs.Majority.{is_vote_for, votes_for, IsMajority, IsAgreed, decided, undecided, majority_among, majority_of, agreed_of, MajorityIsFound, AgreedWordIsFound}
use Rattle.sift_vote.specs.laws.Votes.{majority_is_unique, agreement_is_unique}

-- what the search finds is a majority
among_is : (all places : List (Option ℕ)) (w : ℕ) → majority_among all places ≡ Some w → IsMajority all w
among_is all [] w found = absurd cc
among_is all (None ∷ places) w found = among_is all places w found
among_is all (Some v ∷ places) w found =
    elim (cases_Bool (nat_lt (length all) (2 * votes_for all v))) [
      | inl t ↦ subst (IsMajority all) (same_Some v w (rw t at found)) (ltb-true _ _ t)
      | inr f ↦ among_is all places w (rw f at found)
    ]

-- a majority with a vote in these places is found there
among_found : (all places : List (Option ℕ)) (w : ℕ) → IsMajority all w → 0 < votes_for places w → majority_among all places ≡ Some w
among_found all [] w most some = absurd (omega arith)
among_found all (None ∷ places) w most some =
    among_found all places w most (omega (arith, count-cons (is_vote_for w) None places))
among_found all (Some v ∷ places) w most some =
    elim (cases_Bool (nat_lt (length all) (2 * votes_for all v))) [
      | inl t ↦ rw t (ap Some (majority_is_unique all v w (ltb-true _ _ t) most))
      | inr f ↦ elim (eqb_tells v w) [
        | inl same ↦ absurd (loses all v w most f same.1)
        | inr other ↦ rw f (among_found all places w most
            (subst (λ n. 0 < n) (count-no (is_vote_for w) (Some v) places other.0) some))
      ]
    ]
  where
    loses : (all : List (Option ℕ)) (v w : ℕ) → IsMajority all w → nat_lt (length all) (2 * votes_for all v) ≡ false → v ≢ w
    loses all v w most f same =
        let t = lt-ltb (length all) (2 * votes_for all w) most in
        let e = ap (λ x. nat_lt (length all) (2 * votes_for all x)) same in
        cc

-- the search finds a word just where it stands in more than half of all places
pub majority_is_found : MajorityIsFound
majority_is_found places w = (among_is places places w, λ most. among_found places places w most (omega arith))

-- what the search leads to is the agreed word
agreed_from : (places : List (Option ℕ)) (found : Option ℕ) → majority_of places ≡ found → IsAgreed places (unwrap_or found 0)
agreed_from places (Some w) is = decided (among_is places places w is)
agreed_from places None is =
    undecided (λ w most. none-some w (sym is ∙ (majority_is_found places w).1 most)) refl

-- the agreed word that is found is the only one
pub agreed_word_is_found : AgreedWordIsFound
agreed_word_is_found places w =
    let found : IsAgreed places (agreed_of places) = agreed_from places (majority_of places) refl in
    let unique = agreement_is_unique places in (
      λ same. subst (IsAgreed places) same found,
      λ agreed. unique.2 (agreed_of places) found ∙ sym (unique.2 w agreed),
    )
