-- Majorities and agreed words, by induction over the places.
use Rattle.std.proofs.Common.{◌≡◌, ◌≢◌, ℕ, ◌+◌, ◌*◌, ◌≤◌, ◌⊎◌, inl, inr, List, [], ◌∷◌, length, cond, eqb, true, Option, None, Some, All, refl, ap, arith}
use Rattle.std.proofs.lemmas.Bool.{cases_lt, cases_eq, ne_eqb, eq-eqb}
use Rattle.std.proofs.lemmas.Bool.Decides.{nat_tests}
use Rattle.std.proofs.lemmas.List.Elements.{All-nil, All-cons, All-head, All-tail}
use Rattle.std.proofs.lemmas.List.Sums.{sum_by-cons}
use Rattle.std.proofs.lemmas.Option.{none-some, same_Some}
use Rattle.sift_vote.specs.Majority.{
  is_vote_for,
  votes_for,
  IsMajority,
  HasNoMajority,
  IsAgreed,
  decided,
  undecided,
  MajorityIsUnique,
  AgreementIsUnique,
  UnanimityIsAgreed,
}

-- one place more
votes_for-cons : (place : Option ℕ) (places : List (Option ℕ)) (w : ℕ)
    → votes_for (place ∷ places) w ≡ cond (is_vote_for w place) 1 0 + votes_for places w
votes_for-cons place places w = sum_by-cons (λ p. cond (is_vote_for w p) 1 0) place places

-- a word is at most one of two different ones
one_word : (x v w : ℕ) → v ≢ w → cond (eqb x v) 1 0 + cond (eqb x w) 1 0 ≤ 1
one_word x v w apart = grind (arith, nat_tests)

-- a place holds at most one of two different words
one_vote : (place : Option ℕ) (v w : ℕ) → v ≢ w
    → cond (is_vote_for v place) 1 0 + cond (is_vote_for w place) 1 0 ≤ 1
one_vote None v w apart = omega arith
one_vote (Some x) v w apart = one_word x v w apart

-- two different words have at most one vote for each place between them
votes_for-apart : (places : List (Option ℕ)) (v w : ℕ) → v ≢ w
    → votes_for places v + votes_for places w ≤ length places
votes_for-apart [] v w apart = omega arith
votes_for-apart (place ∷ places) v w apart =
    omega (
      arith,
      votes_for-cons place places v,
      votes_for-cons place places w,
      one_vote place v w apart,
      votes_for-apart places v w apart,
    )

-- at most one word stands in more than half of all places
pub majority_is_unique : MajorityIsUnique
majority_is_unique places v w most_v most_w =
    elim (cases_eq v w) [
      | inl same ↦ same
      | inr apart ↦ absurd (omega (arith, votes_for-apart places v w apart))
    ]

-- a word that this place holds isn't a majority of all places
abbrev pub Loses : List (Option ℕ) → Option ℕ → Type 0
Loses all place = (w : ℕ) → place ≡ Some w → ¬ IsMajority all w

-- a majority has no vote from places that hold no majority
votes_for-losers : (all places : List (Option ℕ)) (w : ℕ) → IsMajority all w → All (Loses all) places
    → votes_for places w ≡ 0
votes_for-losers all [] w most lose = refl
votes_for-losers all (None ∷ places) w most lose =
    omega (
      arith,
      votes_for-cons None places w,
      votes_for-losers all places w most (All-tail (Loses all) None places lose),
    )
votes_for-losers all (Some v ∷ places) w most lose =
    elim (cases_eq v w) [
      | inl same ↦ absurd (All-head (Loses all) (Some v) places lose w (ap Some same) most)
      | inr apart ↦ omega (
        arith,
        votes_for-cons (Some v) places w,
        ap {B = ℕ} (λ b. cond b 1 0) (ne_eqb v w apart),
        votes_for-losers all places w most (All-tail (Loses all) (Some v) places lose),
      )
    ]

-- places that hold no majority have none
pub no_majority : (places : List (Option ℕ)) → All (Loses places) places → HasNoMajority places
no_majority places lose w most = omega (arith, votes_for-losers places places w most lose)

-- the places hold a majority of all places, or none of them does
found_or_lost : (all places : List (Option ℕ)) → ((w : ℕ) × IsMajority all w) ⊎ All (Loses all) places
found_or_lost all [] = inr (All-nil (Loses all))
found_or_lost all (None ∷ places) =
    elim (found_or_lost all places) [
      | inl found ↦ inl found
      | inr lose ↦ inr (All-cons (Loses all) None places (λ w e. absurd (none-some w e)) lose)
    ]
found_or_lost all (Some v ∷ places) =
    elim (cases_lt (length all) (2 * votes_for all v)) [
      | inl most ↦ inl (v, most)
      | inr few ↦ elim (found_or_lost all places) [
        | inl found ↦ inl found
        | inr lose ↦ inr (All-cons (Loses all) (Some v) places
            (λ w e most. omega (arith, ap (votes_for all) (same_Some v w e))) lose)
      ]
    ]

-- where there is a majority, the agreed word is that
agreed_is_majority : (places : List (Option ℕ)) (v w : ℕ) → IsMajority places v → IsAgreed places w
    → w ≡ v
agreed_is_majority places v w most (decided most_w) = majority_is_unique places w v most_w most
agreed_is_majority places v w most (undecided none zero) = absurd (none v most)

-- where there is none, it is 0
agreed_is_zero : (places : List (Option ℕ)) (w : ℕ) → HasNoMajority places → IsAgreed places w → w ≡ 0
agreed_is_zero places w none (decided most) = absurd (none w most)
agreed_is_zero places w none (undecided _ zero) = zero

-- any places have one agreed word and no other: their majority, or 0 where they have none
pub agreement_is_unique : AgreementIsUnique
agreement_is_unique places =
    elim (found_or_lost places places) [
      | inl found ↦ (found.0, decided found.1, λ v. agreed_is_majority places found.0 v found.1)
      | inr lose ↦ let none : HasNoMajority places = no_majority places lose in
          (0, undecided none refl, λ v. agreed_is_zero places v none)
    ]

-- each place of so many that hold this word is a vote for it
votes_for-unanimous : (places : List (Option ℕ)) (w : ℕ) → All (λ place. place ≡ Some w) places
    → votes_for places w ≡ length places
votes_for-unanimous [] w same = refl
votes_for-unanimous (place ∷ places) w same =
    let here : is_vote_for w place ≡ true =
    rw (All-head (λ p. p ≡ Some w) place places same) (eq-eqb w w refl) in
    omega (
      arith,
      votes_for-cons place places w,
      ap {B = ℕ} (λ b. cond b 1 0) here,
      votes_for-unanimous places w (All-tail (λ p. p ≡ Some w) place places same),
    )

-- where all places hold one word, and there are some, only that word is agreed
pub unanimity_is_agreed : UnanimityIsAgreed
unanimity_is_agreed places w some same v =
    agreed_is_majority places w v (omega (arith, votes_for-unanimous places w same))
