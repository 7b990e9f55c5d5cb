-- Lists of units: who is in them, and how many of them pass a test.
use Rattle.std.proofs.Common.{◌≡◌, ℕ, zero, suc, ◌+◌, ◌<◌, inl, inr, List, [], ◌∷◌, length, map, slice_index, Some, Bool, true, false, not, cond, nat_eq, refl, sym, ap, ◌∙◌, arith}
use Rattle.std.specs.Prelude.{count_by}
use Rattle.std.specs.List.{AllByRecursion, filter, slice_get}
use Rattle.std.proofs.lemmas.Bool.{and_parts, cases_Bool, cases_eq, eq-eqb, ne_eqb}
use Rattle.std.proofs.lemmas.List.Sums.{sum_by-cons}
use Rattle.sift_base.specs.Units.{has, faulty_count}
use Rattle.sift_base.specs.laws.ReadBack.{has-filter}

-- u is below each unit of the list
abbrev pub IsBelowAll : ℕ → List ℕ → Type 0
IsBelowAll u us = AllByRecursion (λ v. u < v) us

-- ---- members

-- the first of a list is in it
pub has-head : (u : ℕ) (us : List ℕ) → has (u ∷ us) u ≡ true
has-head u us = rw (eq-eqb u u refl)

-- so is one that follows
pub has-tail : (u : ℕ) (us : List ℕ) (v : ℕ) → has us v ≡ true → has (u ∷ us) v ≡ true
has-tail u us v in_us = elim (cases_Bool (nat_eq u v)) [ inl t ↦ rw t | inr f ↦ rw f in_us ]

-- two numbers are told to be one whichever of them comes first
pub nat_eq-swap : (u v : ℕ) → nat_eq u v ≡ nat_eq v u
nat_eq-swap u v = elim (cases_eq u v) [
  | inl same ↦ rw same refl
  | inr other ↦ ne_eqb u v other ∙ sym (ne_eqb v u (λ e. other (sym e)))
]

-- the unit at a place of a list is in it
pub has_place : (us : List ℕ) (i u : ℕ) → slice_get us i ≡ Some u → has us u ≡ true
has_place [] i u there = absurd cc
has_place (v ∷ us) zero u there = let same : v ≡ u = cc in rw same (has-head u us)
has_place (v ∷ us) (suc i) u there = has-tail v us u (has_place us i u there)

-- what stands at a place of a list is in it
pub has_index : (us : List ℕ) (i : ℕ) → i < length us → has us (slice_index us i) ≡ true
has_index [] i low = absurd (omega arith)
has_index (u ∷ us) zero low = has-head u us
has_index (u ∷ us) (suc i) low = has-tail u us (slice_index us i) (has_index us i (omega arith))

-- what passes a test in a list is in the list, and passes
pub of_filtered : (p : ℕ → Bool) (us : List ℕ) (v : ℕ) → has (filter p us) v ≡ true → (p v ≡ true) × (has us v ≡ true)
of_filtered p us v there = and_parts (p v) (has us v) (sym (has-filter p us v) ∙ there)

-- and the other way round
pub in_filtered : (p : ℕ → Bool) (us : List ℕ) (v : ℕ) → has us v ≡ true → p v ≡ true → has (filter p us) v ≡ true
in_filtered p us v there passes = has-filter p us v ∙ rw (passes, there) refl

-- values that are the same at each unit of a list
pub map-same : {A : Type 0} (f g : ℕ → A) (us : List ℕ) → ((u : ℕ) → has us u ≡ true → f u ≡ g u) → map f us ≡ map g us
map-same f g [] same = refl
map-same f g (u ∷ us) same = rw (same u (has-head u us), map-same f g us (λ v there. same v (has-tail u us v there))) refl

-- two tests that agree on a list pass the same
pub filter_same : (p q : ℕ → Bool) (ks : List ℕ) → ((u : ℕ) → has ks u ≡ true → p u ≡ q u) → filter p ks ≡ filter q ks
filter_same p q [] agree = refl
filter_same p q (k ∷ ks) agree =
    let rest = filter_same p q ks (λ u there. agree u (has-tail k ks u there)) in
    let here = agree k (has-head k ks) in
    elim (cases_Bool (q k)) [ inl t ↦ rw (t, here ∙ t) (ap (λ us. k ∷ us) rest) | inr f ↦ rw (f, here ∙ f) rest ]

-- a list with a unit isn't empty
pub length-has : (u : ℕ) (us : List ℕ) → has us u ≡ true → 0 < length us
length-has u [] in_us = absurd cc
length-has u (v ∷ us) in_us = omega arith

-- ---- counts

-- one element more
pub count-cons : {X : Type 0} (p : X → Bool) (x : X) (xs : List X) → count_by p (x ∷ xs) ≡ cond (p x) 1 0 + count_by p xs
count-cons p x xs = sum_by-cons (λ y. cond (p y) 1 0) x xs

-- one element more that passes
pub count-yes : {X : Type 0} (p : X → Bool) (x : X) (xs : List X) → p x ≡ true → count_by p (x ∷ xs) ≡ suc (count_by p xs)
count-yes p x xs passes = count-cons p x xs ∙ rw passes (omega arith)

-- one element more that doesn't pass
pub count-no : {X : Type 0} (p : X → Bool) (x : X) (xs : List X) → p x ≡ false → count_by p (x ∷ xs) ≡ count_by p xs
count-no p x xs fails = count-cons p x xs ∙ rw fails (omega arith)

-- as many pass one test as another, where the tests are the same at each unit of the list
pub count-same : (p q : ℕ → Bool) (us : List ℕ) → ((u : ℕ) → has us u ≡ true → p u ≡ q u) → count_by p us ≡ count_by q us
count-same p q [] same = refl
count-same p q (u ∷ us) same =
    let here = same u (has-head u us) in
    let rest = count-same p q us (λ v there. same v (has-tail u us v there)) in
    count-cons p u us ∙ (λ i. cond (here i) 1 0 + rest i) ∙ sym (count-cons q u us)

-- each unit works or is faulty
pub both_counts : (works : ℕ → Bool) (us : List ℕ) → faulty_count works us + count_by works us ≡ length us
both_counts works [] = omega arith
both_counts works (u ∷ us) =
    let rest = both_counts works us in
    elim (cases_Bool (works u)) [
      | inl t ↦ rw (count-yes works u us t, count-no (λ v. not (works v)) u us (ap not t)) (omega arith)
      | inr f ↦ rw (count-no works u us f, count-yes (λ v. not (works v)) u us (ap not f)) (omega arith)
    ]
