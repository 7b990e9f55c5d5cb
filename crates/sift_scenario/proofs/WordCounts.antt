-- How many words tasks have, one task after another.
use Rattle.std.proofs.Common.{◌≡◌, ◌<◌, ◌≤◌, ◌+◌, ℕ, List, length, get_or, map, take, sym, ◌∙◌, ap, arith}
use Rattle.std.proofs.lemmas.List.{get_or-map, length-map, take-map}
use Rattle.std.proofs.lemmas.List.Sums.{sum_by-take-le, sum_by_more}
use Rattle.std.specs.List.{sum}

-- one task more, of which a loop knows the number of words
pub sum_take-more :
    {A : Type 0} (f : A → ℕ) (xs : List A) (i : ℕ) (x : A) → i < length xs → x ≡ get_or xs i x
    → sum (take (i + 1) (map f xs)) ≡ sum (take i (map f xs)) + f x
sum_take-more f xs i x low is =
    let here : get_or (map f xs) i (f x) ≡ f x = get_or-map f xs i x (f x) low ∙ ap f (sym is) in
    rw (← here) (sum_by_more (λ n. n) (map f xs) i (f x) (rw length-map low))

-- the words of some tasks are among those of all
pub within_all : {A : Type 0} (f : A → ℕ) (xs : List A) (n i : ℕ) → sum (take i (map f (take n xs))) ≤ sum (map f xs)
within_all f xs n i =
    let some = sum_by-take-le (λ m. m) (map f (take n xs)) i in
    let all = sum_by-take-le (λ m. m) (map f xs) n in
    omega (arith, some, rw (take-map f n xs) at all)
