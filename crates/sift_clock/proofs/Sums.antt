-- Sums of counted readings, from the first reading on.
use Rattle.std.proofs.Common.{◌≡◌, ℕ, zero, suc, ◌<◌, List, [], ◌∷◌, length, map, take, get_or, ℤ, ◌+ℤ◌, arith}
use Rattle.std.proofs.lemmas.Int.{ints}
use Rattle.sift_clock.specs.Correction.{int_sum}

-- one number more
pub int_sum-take_suc : {X : Type 0} (f : X → ℤ) (xs : List X) (i : ℕ) (d : X) → i < length xs
    → int_sum (map f (take (suc i) xs)) ≡ int_sum (map f (take i xs)) +ℤ f (get_or xs i d)
int_sum-take_suc f [] i d below = absurd (omega arith)
int_sum-take_suc f (x ∷ xs) zero d below = omega (arith, ints)
int_sum-take_suc f (x ∷ xs) (suc i) d below =
    omega (arith, ints, int_sum-take_suc f xs i d (omega arith))
