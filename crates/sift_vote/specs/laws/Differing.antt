-- Whose place differs from a vote, where the places are those of the units, one by one.
use Rattle.std.proofs.Common.{◌≡◌, ℕ, Bool, true, false, ◌&&◌, ◌||◌, nat_eq, Option, List, [], ◌∷◌, map, eqb-true, refl, inl, inr}
use Rattle.std.proofs.lemmas.Bool.{cases_Bool}
use Rattle.sift_base.specs.Units.{has}
use Rattle.sift_vote.specs.Majority.{differs, has_differing}

-- it is a unit of the list, and its place differs
pub has_differing-map : (us : List ℕ) (place : ℕ → Option ℕ) (vote : Option ℕ) (u : ℕ)
    → has_differing us (map place us) vote u ≡ (has us u && differs (place u) vote)
has_differing-map [] place vote u = refl
has_differing-map (v ∷ us) place vote u =
    let rest = has_differing-map us place vote u in
    elim (cases_Bool (nat_eq v u)) [
      | inl same ↦ rw (same, eqb-true v u same, rest) (absorbed (differs (place u) vote) (has us u))
      | inr other ↦ rw (other, rest) refl
    ]
  where
    absorbed : (a b : Bool) → (a || (b && a)) ≡ a
    absorbed true b = refl
    absorbed false true = refl
    absorbed false false = refl
