-- The agreed word, as it is looked for place by place.
use Rattle.std.proofs.Common.{◌≡◌, ℕ, List, ◌∷◌, Option, All, refl, sym}
use Rattle.std.proofs.lemmas.List.Elements.{All-cons}
use Rattle.sift_vote.specs.Majority.{IsMajority, IsAgreed, decided, undecided, agreed_of}
use Rattle.sift_vote.specs.laws.Votes.{no_majority}
use Rattle.sift_vote.specs.laws.Found.{agreed_word_is_found}
use Rattle.sift_agree.specs.Agreement.{HoldsNoMajority}

-- a word that is agreed is the one that is found
pub agreed-found : (places : List (Option ℕ)) (word : ℕ) → IsAgreed places word → word ≡ agreed_of places
agreed-found places word agreed = sym ((agreed_word_is_found places word).1 agreed)

-- the majority is agreed
pub won-agreed : (places : List (Option ℕ)) (word : ℕ) → IsMajority places word → word ≡ agreed_of places
won-agreed places word most = agreed-found places word (decided most)

-- where no place holds a majority 0 is agreed
pub lost-agreed : (direct : Option ℕ) (relays : List (Option ℕ)) → HoldsNoMajority (direct ∷ relays) direct
    → All (HoldsNoMajority (direct ∷ relays)) relays → IsAgreed (direct ∷ relays) 0
lost-agreed direct relays first rest =
    let places = direct ∷ relays in
    undecided (no_majority places (All-cons (HoldsNoMajority places) direct relays first rest)) refl
