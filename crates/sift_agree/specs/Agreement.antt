-- Agreement on the word of one unit, with one fault and two rounds of telling, after Pease, Shostak and Lamport.
use Rattle.std.specs.Prelude.{◌≡◌, ◌≢◌, ℕ, List, ◌∷◌, map, Bool, true, false, Option, Some}
use Rattle.sift_base.specs.Units.{has, others, IsAscending, HasMargin}
use Rattle.sift_vote.specs.Majority.{IsMajority, agreed_of}

-- the word of this place, if it has one, isn't the majority of all places
abbrev pub HoldsNoMajority : List (Option ℕ) → Option ℕ → Type 0
HoldsNoMajority all place = (word : ℕ) → place ≡ Some word → ¬ IsMajority all word

-- what unit q of a configuration takes for the word of unit s: the word that it heard from s, and what each other unit
-- relayed to it
abbrev pub taken : List ℕ → ℕ → ℕ → (ℕ → Option ℕ) → (ℕ → ℕ → Option ℕ) → List (Option ℕ)
taken us s q direct relayed = direct q ∷ map (relayed q) (others q (others s us))

-- working units relay to one another what they heard from s
abbrev pub RelaysWell : (ℕ → Bool) → List ℕ → ℕ → (ℕ → Option ℕ) → (ℕ → ℕ → Option ℕ) → Type 0
RelaysWell works us s direct relayed =
    (q r : ℕ) → has us q ≡ true → works q ≡ true → has us r ≡ true → works r ≡ true →
    q ≢ s → r ≢ s → r ≢ q → relayed q r ≡ direct r

-- in a configuration with margin all working units agree on one word of a faulty unit, whatever it says to each of them
abbrev pub FaultyUnitIsAgreedOn : Type 0
FaultyUnitIsAgreedOn =
    (works : ℕ → Bool) (us : List ℕ) (s p q : ℕ) (direct : ℕ → Option ℕ) (relayed : ℕ → ℕ → Option ℕ) →
    IsAscending us → HasMargin works us → RelaysWell works us s direct relayed →
    has us s ≡ true → works s ≡ false →
    has us p ≡ true → works p ≡ true → has us q ≡ true → works q ≡ true →
    agreed_of (taken us s p direct relayed) ≡ agreed_of (taken us s q direct relayed)

-- in a configuration with margin all other working units agree on the word that a working unit said to them, whatever a
-- faulty unit relays
abbrev pub WorkingUnitIsAgreedOn : Type 0
WorkingUnitIsAgreedOn =
    (works : ℕ → Bool) (us : List ℕ) (s q word : ℕ) (direct : ℕ → Option ℕ) (relayed : ℕ → ℕ → Option ℕ) →
    IsAscending us → HasMargin works us → RelaysWell works us s direct relayed →
    has us s ≡ true → works s ≡ true →
    ((r : ℕ) → has us r ≡ true → works r ≡ true → r ≢ s → direct r ≡ Some word) →
    has us q ≡ true → works q ≡ true → q ≢ s →
    agreed_of (taken us s q direct relayed) ≡ word
