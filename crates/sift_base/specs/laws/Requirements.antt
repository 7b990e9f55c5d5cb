-- Requirements that can be tested are all met, or one of them is the first that isn't, and no other.
use Rattle.std.proofs.Common.{◌≡◌, ◌<◌, ◌⊎◌, inl, inr, ℕ, zero, suc, List, [], ◌∷◌, ◌∙◌, sym, refl, subst, arith}
use Rattle.std.proofs.lemmas.Bool.{cases_lt, cases_order}
use Rattle.std.specs.Bool.{⊤}
use Rattle.sift_base.specs.Requirement.{Requirement, AreMet, IsFirstUnmet, IsFirstRefused}

-- where all are met none is the first that isn't
pub met_unbroken : (required : List Requirement) (number : ℕ) → AreMet required → ¬ IsFirstUnmet required number
met_unbroken [] number met broken = broken
met_unbroken (first ∷ rest) number met (inl here) = here.0 met.0
met_unbroken (first ∷ rest) number met (inr later) = met_unbroken rest number met.1 later.1

-- the first that isn't met is one
pub one_number : (required : List Requirement) (number other : ℕ) → IsFirstUnmet required number → IsFirstUnmet required other → other ≡ number
one_number [] number other broken again = absurd broken
one_number (first ∷ rest) number other (inl here) (inl there) = there.1 ∙ sym here.1
one_number (first ∷ rest) number other (inl here) (inr there) = absurd (here.0 there.0)
one_number (first ∷ rest) number other (inr here) (inl there) = absurd (there.0 here.0)
one_number (first ∷ rest) number other (inr here) (inr there) = one_number rest number other here.1 there.1

-- each can be tested: its fact holds, or it doesn't
abbrev pub AreTested : List Requirement → Type 0
AreTested [] = ⊤
AreTested (first ∷ rest) = (first.1 ⊎ (¬ first.1)) × AreTested rest

-- so all are met, or one is the first that isn't
pub met_or_broken : (required : List Requirement) → AreTested required → AreMet required ⊎ ((number : ℕ) × IsFirstUnmet required number)
met_or_broken [] tested = inl tt
met_or_broken (first ∷ rest) tested = elim tested.0 [
  | inr broken ↦ inr (first.0, inl (broken, refl))
  | inl met ↦ elim (met_or_broken rest tested.1) [
    | inl later ↦ inl (met, later)
    | inr later ↦ inr (later.0, inr (met, later.1))
  ]
]

module _ (required : ℕ → List Requirement) where
  -- so many entries meet what is required of them, or one is the first that doesn't
  pub entries_met : (count : ℕ) → ((entry : ℕ) → AreTested (required entry))
      → ((entry : ℕ) → entry < count → AreMet (required entry)) ⊎ ((number : ℕ) × (entry : ℕ) × IsFirstRefused count required number entry)
  entries_met zero tested = inl (λ entry low. absurd (omega (arith, low)))
  entries_met (suc n) tested = elim (entries_met n tested) [
    | inr bad ↦ inr (bad.0, bad.1, record { inside = omega (arith, bad.2.inside); before = bad.2.before; broken = bad.2.broken })
    | inl before ↦ elim (met_or_broken (required n) (tested n)) [
      | inr broken ↦ inr (broken.0, n, record { inside = omega arith; before = before; broken = broken.1 })
      | inl met ↦ inl (λ entry low. elim (cases_lt entry n) [
        | inl less ↦ before entry less
        | inr high ↦ let last : n ≡ entry = omega (arith, low, high) in subst (λ k. AreMet (required k)) last met
      ])
    ]
  ]

  -- the first entry that doesn't is one, and so is the first requirement there that isn't met
  pub one_refused : (count number entry other place : ℕ) → IsFirstRefused count required number entry → IsFirstRefused count required other place
      → (other ≡ number) × (place ≡ entry)
  one_refused count number entry other place one two = (one_number (required entry) number other one.broken (rw same at two.broken), same)
    where
      same : place ≡ entry
      same = elim (cases_order place entry) [
        | inl is ↦ is
        | inr (inl before) ↦ absurd (met_unbroken (required place) other (one.before place before) two.broken)
        | inr (inr after) ↦ absurd (met_unbroken (required entry) number (two.before entry after) one.broken)
      ]
