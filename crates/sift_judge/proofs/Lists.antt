-- Lists of units: the first that passes a test, what holds of each that passes, and what is told once.
use Rattle.std.proofs.Common.{◌≡◌, ℕ, List, [], ◌∷◌, Bool, true, nat_eq, Option, None, Some, inl}
use Rattle.std.proofs.Common.{inr, refl, sym, ap, ◌∙◌, subst, arith}
use Rattle.std.specs.Prelude.{slice_get}
use Rattle.std.specs.List.{All, filter, find}
use Rattle.std.proofs.lemmas.Bool.{cases_Bool}
use Rattle.std.proofs.lemmas.Bool.Decides.{nat_tests}
use Rattle.std.proofs.lemmas.List.Elements.{All-cons, All-head, All-nil, All-tail}
use Rattle.sift_base.specs.Units.{has}
use Rattle.sift_base.specs.laws.Counts.{has-head, has-tail}

-- the first unit that passes is the first of those that do
first_passing : (passes : ℕ → Bool) (us : List ℕ) → find passes us ≡ slice_get (filter passes us) 0
first_passing passes [] = refl
first_passing passes (u ∷ us) = elim (cases_Bool (passes u)) [ inl t ↦ rw t refl | inr f ↦ rw f (first_passing passes us) ]

-- the first of the units that pass a test is the one that a search for such a unit finds; where none passes there is neither
pub first_found : (passes : ℕ → Bool) (us passing : List ℕ) → passing ≡ filter passes us → slice_get passing 0 ≡ find passes us
first_found passes us passing are = ap (λ units. slice_get units 0) are ∙ sym (first_passing passes us)

-- what holds of all that pass holds of each unit of the list that passes
pub of_passing : (passes : ℕ → Bool) (P : ℕ → Type 0) (us : List ℕ) → All P (filter passes us) → (u : ℕ) → has us u ≡ true → passes u ≡ true → P u
of_passing passes P [] all u there works = absurd cc
of_passing passes P (v ∷ us) all u there works = elim (cases_Bool (nat_eq v u)) [
  | inl same ↦
      let e : v ≡ u = grind (arith, nat_tests, same) in
      let passes_v : passes v ≡ true = rw e works in
      subst P e (All-head P v (filter passes us) (rw passes_v at all))
  | inr other ↦ elim (cases_Bool (passes v)) [
    | inl t ↦ of_passing passes P us (All-tail P v (filter passes us) (rw t at all)) u (rw other at there) works
    | inr f ↦ of_passing passes P us (rw f at all) u (rw other at there) works
  ]
]

-- and the other way round
pub all_passing : (passes : ℕ → Bool) (P : ℕ → Type 0) (us : List ℕ) → ((u : ℕ) → has us u ≡ true → passes u ≡ true → P u) → All P (filter passes us)
all_passing passes P [] each = All-nil P
all_passing passes P (v ∷ us) each = elim (cases_Bool (passes v)) [
  | inl t ↦ rw t (All-cons P v (filter passes us) (each v (has-head v us) t) (all_passing passes P us (λ u there works. each u (has-tail v us u there) works)))
  | inr f ↦ rw f (all_passing passes P us (λ u there works. each u (has-tail v us u there) works))
]

-- what is there is one thing
abbrev the : List ℕ → Option (List ℕ) → List ℕ
the other None = other
the other (Some us) = us

-- an option has at most one list for its value
pub one_told : (us vs : List ℕ) (o : Option (List ℕ)) → o ≡ Some us → o ≡ Some vs → us ≡ vs
one_told us vs o a b = ap (the us) (sym a ∙ b)
