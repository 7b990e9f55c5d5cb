-- One rule at most is the first that is broken, and none where all are kept.
use Rattle.std.proofs.Common.{◌≡◌, inl, inr, ℕ, List, [], ◌∷◌, sym, ◌∙◌}
use Rattle.std.proofs.lemmas.Bool.{cases_order}
use Rattle.sift_document.specs.Rules.{AreKept, BreaksFirst, IsFirstPlace, Rule}

-- where rules are kept, none is the first that is broken
pub kept_unbroken : (rules : List Rule) (number place : ℕ) → AreKept rules → ¬ BreaksFirst rules number place
kept_unbroken [] number place kept broken = broken
kept_unbroken (rule ∷ rest) number place kept (inl broken) = kept.0 place broken.1.broken
kept_unbroken (rule ∷ rest) number place kept (inr broken) = kept_unbroken rest number place kept.1 broken.1

-- a rule has one first place
one_place : (BrokenAt : ℕ → Type 0) (place other : ℕ) → IsFirstPlace BrokenAt place → IsFirstPlace BrokenAt other → place ≡ other
one_place BrokenAt place other one two = elim (cases_order place other) [
  | inl same ↦ same
  | inr (inl before) ↦ absurd (two.first place before one.broken)
  | inr (inr after) ↦ absurd (one.first other after two.broken)
]

-- one rule at most is the first that is broken, at one place
pub one_broken : (rules : List Rule) (n at m other : ℕ) → BreaksFirst rules n at → BreaksFirst rules m other → (n ≡ m) × (at ≡ other)
one_broken [] n at m other one two = absurd one
one_broken (rule ∷ rest) n at m other (inl one) (inl two) = (one.0 ∙ sym two.0, one_place rule.BrokenAt at other one.1 two.1)
one_broken (rule ∷ rest) n at m other (inl one) (inr two) = absurd (two.0 at one.1.broken)
one_broken (rule ∷ rest) n at m other (inr one) (inl two) = absurd (one.0 other two.1.broken)
one_broken (rule ∷ rest) n at m other (inr one) (inr two) = one_broken rest n at m other one.1 two.1
