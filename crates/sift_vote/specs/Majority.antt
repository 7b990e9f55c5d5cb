-- Majority and agreement. A place holds a word or is absent.
use Rattle.std.specs.Prelude.{◌≡◌, ℕ, ◌*◌, ◌<◌, ◌==◌, Bool, false, Option, None, Some, List, All, length, count_by, ◌↔◌, unwrap_or, [], ◌∷◌, nat_lt, if◌then◌else◌, true, not, ◌&&◌, nat_eq}
use Rattle.std.specs.List.{list_any, zip}

-- ---- by counting

-- whether this place is a vote for this word
abbrev pub is_vote_for : ℕ → Option ℕ → Bool
is_vote_for w None = false
is_vote_for w (Some v) = v == w

-- how many of the places hold this word
abbrev pub votes_for : List (Option ℕ) → ℕ → ℕ
votes_for places w = count_by (is_vote_for w) places

-- this word stands in more than half of all places, absent places counted
abbrev pub IsMajority : List (Option ℕ) → ℕ → Type 0
IsMajority places w = length places < 2 * votes_for places w

-- no word stands in more than half of all places
abbrev pub HasNoMajority : List (Option ℕ) → Type 0
HasNoMajority places = (w : ℕ) → ¬ IsMajority places w

-- this word is the agreed word of the places: their majority, or 0 where they have none
pub data IsAgreed (places : List (Option ℕ)) (word : ℕ) : Type 0 where
  decided : IsMajority places word → IsAgreed places word
  undecided : HasNoMajority places → word ≡ 0 → IsAgreed places word

-- at most one word is the majority of any places
abbrev pub MajorityIsUnique : Type 0
MajorityIsUnique =
    (places : List (Option ℕ)) (v w : ℕ) → IsMajority places v → IsMajority places w → v ≡ w

-- any places have one agreed word, and no other
abbrev pub AgreementIsUnique : Type 0
AgreementIsUnique =
    (places : List (Option ℕ)) →
    (w : ℕ) × IsAgreed places w × ((v : ℕ) → IsAgreed places v → v ≡ w)

-- places that all hold one word, and are some, agree on that word
abbrev pub UnanimityIsAgreed : Type 0
UnanimityIsAgreed =
    (places : List (Option ℕ)) (w : ℕ) →
    0 < length places → All (λ place. place ≡ Some w) places → (v : ℕ) → IsAgreed places v → v ≡ w

-- ---- as functions, found by a search

-- the first word of the second places that is the majority of the first
abbrev pub majority_among : List (Option ℕ) → List (Option ℕ) → Option ℕ
majority_among all [] = None
majority_among all (None ∷ places) = majority_among all places
majority_among all (Some w ∷ places) = if nat_lt (length all) (2 * votes_for all w) then Some w else majority_among all places

-- the majority of the places, where they have one
abbrev pub majority_of : List (Option ℕ) → Option ℕ
majority_of places = majority_among places places

-- the agreed word of the places: their majority, or 0 where they have none
abbrev pub agreed_of : List (Option ℕ) → ℕ
agreed_of places = unwrap_or (majority_of places) 0

-- the search finds just the majority
abbrev pub MajorityIsFound : Type 0
MajorityIsFound = (places : List (Option ℕ)) (w : ℕ) → (majority_of places ≡ Some w) ↔ IsMajority places w

-- the agreed word that is found is the agreed word, and no other is
abbrev pub AgreedWordIsFound : Type 0
AgreedWordIsFound = (places : List (Option ℕ)) (w : ℕ) → (agreed_of places ≡ w) ↔ IsAgreed places w

-- ---- which units' places differ from a vote

-- a place differs from a vote: it is absent, or the vote is there and is another word
abbrev pub differs : Option ℕ → Option ℕ → Bool
differs None vote = true
differs (Some w) None = false
differs (Some w) (Some v) = not (nat_eq w v)

-- some place of the unit differs from the vote, where each unit of the list has the place beside it
abbrev pub has_differing : List ℕ → List (Option ℕ) → Option ℕ → ℕ → Bool
has_differing us places vote u = list_any (λ pair. nat_eq pair.0 u && differs pair.1 vote) (zip us places)
