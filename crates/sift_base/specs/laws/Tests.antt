-- Tests that decide facts on numbers and lists.
use Rattle.std.proofs.Common.{◌≡◌, ◌≤◌, ◌<◌, ◌⊎◌, inl, inr, ℕ, zero, suc, Bool, true, false, ◌&&◌, ◌||◌, List, [], ◌∷◌, All, Decides, eqb, leb, ltb, leb-true, le-leb, refl, sym}
use Rattle.std.proofs.lemmas.Bool.Decides.{Decides-and, Decides-below_and, Decides-below_or, Decides-by_and, Decides-eqb, Decides-like, Decides-ltb, not_from_Decides}
use Rattle.std.specs.List.{list_all}
use Rattle.sift_base.specs.Units.{IsAscending}
use Rattle.sift_base.specs.laws.Counts.{IsBelowAll}

-- a test that decides a fact
abbrev pub Test : Type 0 → Type 0
Test P = (b : Bool) × Decides b P

-- so the fact holds, or it doesn't
pub decided : {P : Type 0} → Test P → P ⊎ (P → ⊥)
decided (true, tells) = inl (tells.0 refl)
decided (false, tells) = inr (not_from_Decides false tells refl)

-- two facts
pub both : {P Q : Type 0} → Test P → Test Q → Test (P × Q)
both p q = (p.0 && q.0, Decides-and p.0 q.0 p.1 q.1)

-- what holds always
pub always : Test (Unit {0})
always = (true, (λ e. tt, λ holds. refl))

-- a fact where another holds
pub where_so : {P Q : Type 0} → Test P → Test Q → Test (P → Q)
where_so (true, tells) q = (q.0, Decides-like q.0 (λ holds so. holds) (λ then. then (tells.0 refl)) q.1)
where_so (false, tells) q = (true, (λ e so. absurd (not_from_Decides false tells refl so), λ then. refl))

-- whether a number is at most another
pub at_most : (a b : ℕ) → Test (a ≤ b)
at_most a b = (leb a b, (leb-true a b, le-leb a b))

-- whether a number is below another
pub less : (a b : ℕ) → Test (a < b)
less a b = (ltb a b, Decides-ltb a b)

-- whether two numbers are the same
pub same : (a b : ℕ) → Test (a ≡ b)
same a b = (eqb a b, Decides-eqb a b)

-- whether a truth value is false
pub is_false : (b : Bool) → Test (b ≡ false)
is_false true = (false, (λ e. sym e, λ e. sym e))
is_false false = (true, (λ e. refl, λ e. refl))

-- whether a list is empty
pub is_empty : (xs : List ℕ) → Test (xs ≡ [])
is_empty [] = (true, (λ e. refl, λ e. refl))
is_empty (x ∷ xs) = (false, (λ e. absurd cc, λ e. absurd cc))

-- what holds of each entry of a list
pub each : {X : Type 0} (P : X → Type 0) → ((x : X) → Test (P x)) → (xs : List X) → Test (All P xs)
each P test xs = (
  list_all (λ x. (test x).0) xs,
  Decides-by_and (λ x. (test x).0) P (list_all (λ x. (test x).0)) (λ x. (test x).1) refl (λ x rest. refl) xs,
)

abbrev all_below : (ℕ → Bool) → ℕ → Bool
all_below passes zero = true
all_below passes (suc n) = passes n && all_below passes n

-- what holds of each number below a bound
pub each_below : (P : ℕ → Type 0) → ((k : ℕ) → Test (P k)) → (n : ℕ) → Test ((k : ℕ) → k < n → P k)
each_below P test n = (
  all_below (λ k. (test k).0) n,
  Decides-below_and (λ k. (test k).0) P (all_below (λ k. (test k).0)) (λ k. (test k).1) refl (λ m. refl) n,
)

abbrev some_passes : (ℕ → Bool) → ℕ → Bool
some_passes passes zero = false
some_passes passes (suc n) = passes n || some_passes passes n

-- what holds of a number below a bound
pub some_below : (P : ℕ → Type 0) → ((k : ℕ) → Test (P k)) → (n : ℕ) → Test ((k : ℕ) × (k < n) × P k)
some_below P test n = (
  some_passes (λ k. (test k).0) n,
  Decides-below_or (λ k. (test k).0) P (some_passes (λ k. (test k).0)) (λ k. (test k).1) refl (λ m. refl) n,
)

-- whether a number is below each of a list
below_each : (u : ℕ) (vs : List ℕ) → Test (IsBelowAll u vs)
below_each u [] = (true, (λ e. tt, λ below. refl))
below_each u (v ∷ vs) = both (less u v) (below_each u vs)

-- whether a list ascends
pub ascends : (us : List ℕ) → Test (IsAscending us)
ascends [] = (true, (λ e. tt, λ up. refl))
ascends (u ∷ us) = both (below_each u us) (ascends us)
