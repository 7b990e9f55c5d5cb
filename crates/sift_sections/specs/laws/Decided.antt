-- What can be decided: equality of texts, what is among a list, what holds of all of it, and the first place of a fact.
use Rattle.std.proofs.Common.{◌≡◌, ◌<◌, ◌≤◌, ◌⊎◌, inl, inr, ℕ, zero, suc, List, [], ◌∷◌, Option, Some, None, refl, ap, sym, subst, ◌∙◌, arith}
use Rattle.std.proofs.lemmas.Bool.{cases_lt, cases_order}
use Rattle.std.specs.List.{All, Contains, slice_get}
use Rattle.sift_document.specs.Rules.{HoldsOf, IsFirstPlace}

-- it holds, or it doesn't
abbrev pub Decided : Type 0 → Type 0
Decided P = P ⊎ (P → ⊥)

-- two facts
pub both : {P Q : Type 0} → Decided P → Decided Q → Decided (P × Q)
both (inl p) (inl q) = inl (p, q)
both (inr other) q = inr (λ h. other h.0)
both (inl p) (inr other) = inr (λ h. other h.1)

-- one of two facts
pub either : {P Q : Type 0} → Decided P → Decided Q → Decided (P ⊎ Q)
either (inl p) q = inl (inl p)
either (inr never) (inl q) = inl (inr q)
either (inr never) (inr other) = inr (λ h. elim h [ inl p ↦ never p | inr q ↦ other q ])

-- that a fact doesn't hold
pub negated : {P : Type 0} → Decided P → Decided (P → ⊥)
negated (inl p) = inr (λ other. other p)
negated (inr other) = inl other

-- the order of numbers
pub at_most : (m n : ℕ) → Decided (m ≤ n)
at_most m n = elim (cases_lt n m) [ inl less ↦ inr (λ le. omega (arith, less, le)) | inr le ↦ inl le ]

-- that an option is none
pub nothing : {A : Type 0} (o : Option A) → Decided (o ≡ None)
nothing None = inl refl
nothing (Some x) = inr (λ e. cc)

-- two numbers are the same, or they aren't
pub same_number : (m n : ℕ) → Decided (m ≡ n)
same_number m n = elim (cases_order m n) [
  | inl same ↦ inl same
  | inr (inl less) ↦ inr (λ e. omega (arith, less, e))
  | inr (inr more) ↦ inr (λ e. omega (arith, more, e))
]

-- two texts are the same, or they aren't
pub same_text : (xs ys : List ℕ) → Decided (xs ≡ ys)
same_text [] [] = inl refl
same_text [] (y ∷ ys) = inr (λ e. cc)
same_text (x ∷ xs) [] = inr (λ e. cc)
same_text (x ∷ xs) (y ∷ ys) = elim (both (same_number x y) (same_text xs ys)) [
  | inl same ↦ inl (rw (same.0, same.1) refl)
  | inr other ↦ inr (λ e. other (cc e, cc e))
]

-- two texts, each of which may be missing, are the same, or they aren't
pub same_option : (a b : Option (List ℕ)) → Decided (a ≡ b)
same_option None None = inl refl
same_option None (Some b) = inr (λ e. cc)
same_option (Some a) None = inr (λ e. cc)
same_option (Some a) (Some b) = elim (same_text a b) [
  | inl same ↦ inl (ap (λ x. Some x) same)
  | inr other ↦ inr (λ e. other (cc e))
]

-- ---- places

-- the first place below a bound at which a fact holds, or none
first_below : (P : ℕ → Type 0) → ((k : ℕ) → Decided (P k)) → (n : ℕ)
    → ((k : ℕ) × (k < n) × P k × ((j : ℕ) → j < k → P j → ⊥)) ⊎ ((k : ℕ) → k < n → P k → ⊥)
first_below P known zero = inr (λ k low here. omega (arith, low))
first_below P known (suc n) = elim (first_below P known n) [
  | inl found ↦ inl (found.0, omega (arith, found.1), found.2, found.3)
  | inr none ↦ elim (known n) [
    | inl here ↦ inl (n, omega arith, here, none)
    | inr other ↦ inr (λ k low here. elim (same_number k n) [
      | inl same ↦ other (subst P same here)
      | inr differs ↦ elim (at_most n k) [
        | inl high ↦ differs (omega (arith, low, high))
        | inr not_high ↦ elim (cases_lt k n) [ inl less ↦ none k less here | inr more ↦ not_high more ]
      ]
    ])
  ]
]

-- the first place at which a fact holds that holds only below a bound, or none
pub first_place : (P : ℕ → Type 0) → ((k : ℕ) → Decided (P k)) → (bound : ℕ) → ((k : ℕ) → P k → k < bound)
    → ((place : ℕ) × IsFirstPlace P place) ⊎ ((k : ℕ) → P k → ⊥)
first_place P known bound within = elim (first_below P known bound) [
  | inl found ↦ inl (found.0, record { broken = found.2; first = found.3 })
  | inr none ↦ inr (λ k here. none k (within k here) here)
]

-- ---- lists

-- what is neither the first entry nor among the others
not_among : {X : Type 0} (y : X) (ys : List X) (x : X) → (y ≡ x → ⊥) → (Contains ys x → ⊥) → Contains (y ∷ ys) x → ⊥
not_among y ys x other none (zero, low, here) = other here
not_among y ys x other none (suc k, low, here) = none (k, omega (arith, low), here)

-- whether it is among a list
pub among : {X : Type 0} → ((a b : X) → Decided (a ≡ b)) → (xs : List X) (x : X) → Decided (Contains xs x)
among same [] x = inr (λ there. omega (arith, there.1))
among same (y ∷ ys) x = elim (same y x) [
  | inl here ↦ inl (0, omega arith, here)
  | inr other ↦ elim (among same ys x) [
    | inl there ↦ inl (suc there.0, omega (arith, there.1), there.2)
    | inr none ↦ inr (not_among y ys x other none)
  ]
]

-- what holds of the first entry and of each other
pub all_more : {X : Type 0} (P : X → Type 0) (x : X) (xs : List X) → P x → All P xs → All P (x ∷ xs)
all_more P x xs here rest zero d low = here
all_more P x xs here rest (suc k) d low = rest k d (omega (arith, low))

-- whether it holds of each entry
pub each : {X : Type 0} (P : X → Type 0) → ((x : X) → Decided (P x)) → (xs : List X) → Decided (All P xs)
each P known [] = inl (λ k d low. absurd (omega (arith, low)))
each P known (x ∷ xs) = elim (known x) [
  | inl here ↦ elim (each P known xs) [
    | inl rest ↦ inl (all_more P x xs here rest)
    | inr other ↦ inr (λ all. other (λ k d low. all (suc k) d (omega (arith, low))))
  ]
  | inr other ↦ inr (λ all. other (all 0 x (omega arith)))
]

-- whether it holds of the entry at a place
held : {A : Type 0} (entries : List A) (place : ℕ) (P : A → Type 0) (o : Option A)
    → ((x : A) → Decided (P x)) → slice_get entries place ≡ o → Decided (HoldsOf entries place P)
held entries place P None known is = inr (λ h. let wrong = sym is in let there = h.there in cc)
held entries place P (Some x) known is = elim (known x) [
  | inl here ↦ inl (record { entry = x; there = is; holds = here })
  | inr other ↦ inr (λ h. let same : Some h.entry ≡ Some x = sym h.there ∙ is in
      let one : h.entry ≡ x = cc same in other (subst P one h.holds))
]

-- what can be decided of an entry can be decided of the one at a place
pub holds : {A : Type 0} (entries : List A) (place : ℕ) (P : A → Type 0) → ((x : A) → Decided (P x)) → Decided (HoldsOf entries place P)
holds entries place P known = held entries place P (slice_get entries place) known refl

-- what can't but hold holds, where it can be decided
pub stable : {P : Type 0} → Decided P → ((P → ⊥) → ⊥) → P
stable (inl p) never = p
stable (inr other) never = absurd (never other)

-- whether an option of a number is this one
pub same_value : (a : Option ℕ) (n : ℕ) → Decided (a ≡ Some n)
same_value None n = inr (λ e. cc)
same_value (Some m) n = elim (same_number m n) [
  | inl same ↦ inl (ap (λ x. Some x) same)
  | inr other ↦ inr (λ e. other (cc e))
]
