-- Two lists side by side, of which one is changed at one place.
use Rattle.std.proofs.Common.{◌≡◌, ℕ, zero, suc, ◌<◌, List, [], ◌∷◌, ◌++◌, length, slice_set, slice_index_or, refl, ap, arith}
use Rattle.std.specs.List.{AllZip}

-- what holds of each thing and itself holds of a list and itself
pub side_by_itself : {X : Type 0} (R : X → X → Type 0) → ((x : X) → R x x) → (xs : List X) → AllZip R xs xs
side_by_itself R itself [] = tt
side_by_itself R itself (x ∷ xs) = (itself x, side_by_itself R itself xs)

-- one place was changed
pub side_set : {X : Type 0} (R : X → X → Type 0) (xs ys : List X) (i : ℕ) (d y : X) → AllZip R xs ys → i < length ys →
    ((x : X) → R x (slice_index_or ys i d) → R x y) → AllZip R xs (slice_set ys i y)
side_set R [] [] i d y all low on = absurd (omega arith)
side_set R [] (z ∷ zs) i d y all low on = absurd all
side_set R (x ∷ xs) [] i d y all low on = absurd all
side_set R (x ∷ xs) (z ∷ zs) zero d y all low on = (on x all.0, all.1)
side_set R (x ∷ xs) (z ∷ zs) (suc i) d y all low on = (all.0, side_set R xs zs i d y all.1 (omega arith) on)

-- one place more
pub side_push : {X Y : Type 0} (R : X → Y → Type 0) (xs : List X) (ys : List Y) (x : X) (y : Y) → AllZip R xs ys → R x y →
    AllZip R (xs ++ (x ∷ [])) (ys ++ (y ∷ []))
side_push R [] [] x y all one = (one, tt)
side_push R [] (z ∷ zs) x y all one = absurd all
side_push R (w ∷ ws) [] x y all one = absurd all
side_push R (w ∷ ws) (z ∷ zs) x y all one = (all.0, side_push R ws zs x y all.1 one)

-- each place
pub side_at : {X Y : Type 0} (R : X → Y → Type 0) (xs : List X) (ys : List Y) (i : ℕ) (d : X) (e : Y) → AllZip R xs ys → i < length xs →
    R (slice_index_or xs i d) (slice_index_or ys i e)
side_at R [] ys i d e all low = absurd (omega arith)
side_at R (x ∷ xs) [] i d e all low = absurd all
side_at R (x ∷ xs) (y ∷ ys) zero d e all low = all.0
side_at R (x ∷ xs) (y ∷ ys) (suc i) d e all low = side_at R xs ys i d e all.1 (omega arith)

-- they are equally long
pub side_long : {X Y : Type 0} (R : X → Y → Type 0) (xs : List X) (ys : List Y) → AllZip R xs ys → length ys ≡ length xs
side_long R [] [] all = refl
side_long R [] (y ∷ ys) all = absurd all
side_long R (x ∷ xs) [] all = absurd all
side_long R (x ∷ xs) (y ∷ ys) all = ap suc (side_long R xs ys all.1)
