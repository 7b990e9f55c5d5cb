-- The set of the units that pass a test, and lists made anew in part.
use Rattle.std.proofs.Common.{◌≡◌, ℕ, zero, suc, ◌+◌, ◌<◌, List, [], ◌∷◌, length, Bool, true, false, ◌&&◌, refl, sym, ap, ◌∙◌, subst, arith}
use Rattle.std.specs.Prelude.{slice_index_or, if◌then◌else◌}
use Rattle.std.specs.List.{filter}
use Rattle.std.specs.FinSet as set
use Rattle.sift_base.specs.Units.{has, holds}
use Rattle.sift_base.specs.laws.ReadBack.{has-filter}
use Rattle.sift_unit_frame.specs.Memory.{gathered, renewed}

swapped : (a b : Bool) → (a && b) ≡ (b && a)
swapped true true = refl
swapped true false = refl
swapped false true = refl
swapped false false = refl

-- the set of the units of a list that pass a test has just these
pub holds-gathered : (test : ℕ → Bool) (us : List ℕ) (v : ℕ) → holds (gathered test us) v ≡ (has us v && test v)
unfolding gathered
holds-gathered test us v = set.contains-from_list_nat (filter test us) v ∙ (has-filter test us v ∙ swapped (test v) (has us v))

-- ---- lists made anew in part

-- a place that passes has its new value
pub renewed-here : (test : ℕ → Bool) (value : ℕ → ℕ) (xs : List ℕ) (j i w : ℕ) → w ≡ i + j → j < length xs → test w ≡ true →
    slice_index_or (renewed test value xs i) j 0 ≡ value w
renewed-here test value [] j i w e low is = absurd (omega arith)
renewed-here test value (x ∷ xs) zero i w e low is =
    let z : w ≡ i = omega arith in subst (λ y. test y ≡ true → (if test i then value i else x) ≡ value y) (sym z) (λ s. rw s refl) is
renewed-here test value (x ∷ xs) (suc j) i w e low is = renewed-here test value xs j (suc i) w (omega arith) (omega arith) is

-- a place that doesn't pass has what it had
pub renewed-other : (test : ℕ → Bool) (value : ℕ → ℕ) (xs : List ℕ) (j i w : ℕ) → w ≡ i + j → test w ≡ false →
    slice_index_or (renewed test value xs i) j 0 ≡ slice_index_or xs j 0
renewed-other test value [] j i w e is = refl
renewed-other test value (x ∷ xs) zero i w e is =
    let z : w ≡ i = omega arith in subst (λ y. test y ≡ false → (if test i then value i else x) ≡ x) (sym z) (λ s. rw s refl) is
renewed-other test value (x ∷ xs) (suc j) i w e is = renewed-other test value xs j (suc i) w (omega arith) is

-- the list is as long as before
pub length-renewed : (test : ℕ → Bool) (value : ℕ → ℕ) (xs : List ℕ) (i : ℕ) → length (renewed test value xs i) ≡ length xs
length-renewed test value [] i = refl
length-renewed test value (x ∷ xs) i = ap suc (length-renewed test value xs (suc i))
