-- Lists without a common number.
use Rattle.std.proofs.Common.{◌≡◌, ℕ, List, [], ◌∷◌, true, false, not, ◌||◌, ap, refl, inl, inr, eqb, eq-eqb, eqb-true, subst}
use Rattle.std.proofs.lemmas.Bool.{and_from, and_parts, cases_Bool, or_right, not-true}
use Rattle.std.specs.List.{list_all}
use Rattle.sift_base.specs.Units.{has}
use Rattle.sift_table.specs.Rules.{AreApart}

-- lists are apart where no number of the one is in the other
pub apart_from_all : (some others : List ℕ) → list_all (λ p. not (has others p)) some ≡ true → AreApart some others
apart_from_all [] others all position there = absurd cc
apart_from_all (v ∷ some) others all position there =
    let parts = and_parts (not (has others v)) (list_all (λ p. not (has others p)) some) all in
    elim (cases_Bool (eqb v position)) [
      | inl same ↦ let P : ℕ → Type 0 = λ p. has others p ≡ false in subst P (eqb-true v position same) (not-true (has others v) parts.0)
      | inr other ↦ apart_from_all some others parts.1 position (rw other at there)
    ]

-- and no number of the one is in the other where they are apart
pub all_from_apart : (some others : List ℕ) → AreApart some others → list_all (λ p. not (has others p)) some ≡ true
all_from_apart [] others apart = refl
all_from_apart (v ∷ some) others apart =
    and_from (not (has others v)) (list_all (λ p. not (has others p)) some)
    (ap not (apart v (ap (λ b. b || has some v) (eq-eqb v v refl))))
    (all_from_apart some others (λ p there. apart p (or_right (eqb v p) (has some p) there)))
