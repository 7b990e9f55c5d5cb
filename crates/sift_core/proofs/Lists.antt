-- Lists: one of one element, and two that differ in one element at most.
use Rattle.std.proofs.Common.{◌≡◌, ◌≢◌, ℕ, zero, suc, ◌+◌, ◌<◌, List, [], ◌∷◌, length, slice_index_or, sum_by, refl, ap, arith}
use Rattle.std.specs.List.{All}
use Rattle.std.proofs.lemmas.List.Sums.{sum_by-cons}

-- what holds of an element holds of all of a list of it alone
pub all_one : {A : Type 0} (P : A → Type 0) (x : A) → P x → All P (x ∷ [])
all_one P x p zero d low = p
all_one P x p (suc k) d low = absurd (omega arith)

module _ {A : Type 0} where
  -- two lists as long as each other, with the same elements
  pub same_lists : (xs ys : List A) → length ys ≡ length xs → ((p : ℕ) (d : A) → slice_index_or ys p d ≡ slice_index_or xs p d) → ys ≡ xs
  same_lists [] [] len same = refl
  same_lists [] (y ∷ ys) len same = absurd (omega arith)
  same_lists (x ∷ xs) [] len same = absurd (omega arith)
  same_lists (x ∷ xs) (y ∷ ys) len same =
      let first : y ≡ x = same 0 x in
      let rest = same_lists xs ys (omega arith) (λ p d. same (suc p) d) in
      λ i. first i ∷ rest i

  -- and with the same elements but for one
  pub sums : (f : A → ℕ) (xs ys : List A) (u : ℕ) (d : A) → length ys ≡ length xs → u < length xs →
      ((p : ℕ) (d : A) → p ≢ u → slice_index_or ys p d ≡ slice_index_or xs p d) →
      sum_by f ys + f (slice_index_or xs u d) ≡ sum_by f xs + f (slice_index_or ys u d)
  sums f [] ys u d len low same = absurd (omega arith)
  sums f (x ∷ xs) [] u d len low same = absurd (omega arith)
  sums f (x ∷ xs) (y ∷ ys) zero d len low same =
      let rest : sum_by f ys ≡ sum_by f xs = ap (sum_by f) (same_lists xs ys (omega arith) (λ p e. same (suc p) e (omega arith))) in
      let a = sum_by-cons f x xs in let b = sum_by-cons f y ys in
      let both : sum_by f (y ∷ ys) + f x ≡ sum_by f (x ∷ xs) + f y = omega arith in both
  sums f (x ∷ xs) (y ∷ ys) (suc u) d len low same =
      let first : f y ≡ f x = ap f (same 0 x (omega arith)) in
      let rest = sums f xs ys u d (omega arith) (omega arith) (λ p e ne. same (suc p) e (omega arith)) in
      let a = sum_by-cons f x xs in let b = sum_by-cons f y ys in
      let both : sum_by f (y ∷ ys) + f (slice_index_or xs u d) ≡ sum_by f (x ∷ xs) + f (slice_index_or ys u d) = omega arith in both
