-- Rows of agreement on fewer words than a flight has: fewer than three places decide as more do.
use Rattle.std.proofs.Common.{◌≡◌, Some, None, [], ◌∷◌, refl}
use Rattle.sift_vote.specs.Majority.{agreed_of}

-- one word and another, one of two places, and nothing heard
undecided : agreed_of (Some 5 ∷ Some 9 ∷ []) ∷ agreed_of (None ∷ Some 5 ∷ []) ∷ agreed_of (None ∷ []) ∷ [] ≡ 0 ∷ 0 ∷ 0 ∷ []
undecided = refl
