-- Ascending lists: each number is below its neighbour, and so below all that follow.
use Rattle.std.proofs.Common.{◌≡◌, ℕ, zero, suc, ◌<◌, ◌≤◌, List, [], ◌∷◌, length, get_or, Bool, true, false, IsTrue, arith, ltb, ltb-true, ltb-false, sym, add-one, refl}
use Rattle.std.specs.List.{IsAllAdjacentAnswer}
use Rattle.std.proofs.lemmas.Bool.{false≢true}
use Rattle.sift_base.specs.Units.{IsAscending}
use Rattle.sift_base.specs.laws.Counts.{IsBelowAll}

-- what is below a number is below all that this one is below
below_more : (x y : ℕ) (ys : List ℕ) → x < y → IsBelowAll y ys → IsBelowAll x ys
below_more x y [] lower below = tt
below_more x y (z ∷ zs) lower below = (omega (arith, below.0), below_more x y zs lower below.1)

-- neighbours in order make an ascending list
ascending_from_neighbours : (xs : List ℕ) → ((k : ℕ) → suc k < length xs → get_or xs k 0 < get_or xs (suc k) 0) → IsAscending xs
ascending_from_neighbours [] near = tt
ascending_from_neighbours (x ∷ []) near = (tt, tt)
ascending_from_neighbours (x ∷ y ∷ ys) near =
    let rest : IsAscending (y ∷ ys) = ascending_from_neighbours (y ∷ ys) (λ k low. near (suc k) (omega arith)) in
    let first : x < y = near 0 (omega arith) in
    ((first, below_more x y ys first rest.0), rest)

-- neighbours in an ascending list are in order
neighbours_ascend : (xs : List ℕ) → IsAscending xs → (k : ℕ) → suc k < length xs → get_or xs k 0 < get_or xs (suc k) 0
neighbours_ascend [] up k low = absurd (omega arith)
neighbours_ascend (x ∷ []) up k low = absurd (omega arith)
neighbours_ascend (x ∷ y ∷ ys) up zero low = up.0.0
neighbours_ascend (x ∷ y ∷ ys) up (suc k) low = neighbours_ascend (y ∷ ys) up.1 k (omega arith)

-- a test of all neighbours tells whether the list ascends
pub ascending_from_answer : (xs : List ℕ) (r : Bool) → IsAllAdjacentAnswer (λ x y b. b ≡ ltb x y) xs r → (IsTrue r → IsAscending xs) × (IsAscending xs → IsTrue r)
ascending_from_answer xs true answer =
    let near : (k : ℕ) → suc k < length xs → get_or xs k 0 < get_or xs (suc k) 0 =
    λ k low. rw (← add-one k) (ltb-true _ _ (sym (answer k 0 (omega arith)))) in
    (λ _. ascending_from_neighbours xs near, λ _. refl)
ascending_from_answer xs false answer =
    let k = answer.0 in
    let apart : get_or xs (suc k) 0 ≤ get_or xs k 0 = ltb-false (get_or xs k 0) (get_or xs (suc k) 0) (rw (← add-one k) (sym (answer.2 0))) in
    (λ e. absurd (false≢true e), λ up. absurd (omega (arith, apart, neighbours_ascend xs up k (omega (arith, answer.1)))))
