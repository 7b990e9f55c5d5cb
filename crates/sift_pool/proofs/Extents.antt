-- Spans that lie one after another.
use Rattle.std.proofs.Common.{◌≡◌, ℕ, suc, zero, ◌+◌, ◌<◌, List, [], ◌∷◌, ◌++◌, length, take, sum, get_or, Some, refl, ap, ◌∙◌, arith}
use Rattle.std.specs.Prelude.{slice_get}
use Rattle.sift_pool.specs.Region.{Extent}
use Rattle.sift_pool.specs.Layout.{extents_from}
use Rattle.sift_pool.proofs.Pieces.{sum-cons}

-- the span with this number, start and length
abbrev pub extent : ℕ → ℕ → ℕ → Extent
extent number start len = record { number = number; start = start; len = len }

-- equal numbers, starts and lengths make equal spans
pub same_extent : (m n s t k l : ℕ) → m ≡ n → s ≡ t → k ≡ l → extent m s k ≡ extent n t l
same_extent m n s t k l numbers starts lens = cc

-- there is a span for each length
pub length-extents_from : (number start : ℕ) (ns : List ℕ) → length (extents_from number start ns) ≡ length ns
length-extents_from number start [] = refl
length-extents_from number start (n ∷ ns) = ap suc (length-extents_from (number + 1) (start + n) ns)

-- the first spans are those of the first lengths
pub take-extents_from : (k number start : ℕ) (ns : List ℕ) → take k (extents_from number start ns) ≡ extents_from number start (take k ns)
take-extents_from zero number start ns = refl
take-extents_from (suc k) number start [] = refl
take-extents_from (suc k) number start (n ∷ ns) =
    ap (λ rest. extent number start n ∷ rest) (take-extents_from k (number + 1) (start + n) ns)

-- one more length is one more span, which starts where the others end
pub extents_from-push : (number start : ℕ) (ns : List ℕ) (n : ℕ)
    → extents_from number start (ns ++ n ∷ []) ≡ extents_from number start ns ++ extent (number + length ns) (start + sum ns) n ∷ []
extents_from-push number start [] n =
    ap (λ last. last ∷ []) (same_extent _ _ _ _ n n (omega arith) (omega arith) refl)
extents_from-push number start (m ∷ ns) n =
    let rest = extents_from-push (number + 1) (start + m) ns n in
    let last : extent (number + 1 + length ns) (start + m + sum ns) n ≡ extent (number + length (m ∷ ns)) (start + sum (m ∷ ns)) n =
    same_extent _ _ _ _ n n (omega arith) (omega (arith, sum-cons m ns)) refl in
    cc

-- the span at an index
pub slice_get-extents_from : (k number start : ℕ) (ns : List ℕ) → k < length ns
    → slice_get (extents_from number start ns) k ≡ Some (extent (number + k) (start + sum (take k ns)) (get_or ns k 0))
slice_get-extents_from k number start [] there = absurd (omega arith)
slice_get-extents_from zero number start (n ∷ ns) there =
    ap Some (same_extent _ _ _ _ n n (omega arith) (omega arith) refl)
slice_get-extents_from (suc k) number start (n ∷ ns) there =
    slice_get-extents_from k (number + 1) (start + n) ns (omega arith)
    ∙ ap Some (same_extent _ _ _ _ _ _ (omega arith) (omega (arith, sum-cons n (take k ns))) refl)
