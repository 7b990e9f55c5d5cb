-- Lists of rows, and of elements that share a fact.
use Rattle.std.proofs.Common.{◌≡◌, ℕ, ◌+◌, ◌<◌, List, [], ◌∷◌, ◌++◌, length, map, get_or, sym, ap, ◌∙◌, arith}
use Rattle.std.specs.List.{All, range_with_len}
use Rattle.std.proofs.lemmas.List.FromFn.{map-range_with_len_more}
use Rattle.std.proofs.lemmas.List.{get_or-map, map-append}
use Rattle.std.proofs.lemmas.List.Elements.{All-nil, All-cons, All-head, All-same, All-tail}

-- what a row holds, among what all hold
pub row_at : {X Y : Type 0} (f : X → List Y) (rows : List X) (i : ℕ) (row : X) → i < length rows
    → row ≡ get_or rows i row
    → f row ≡ get_or (map f rows) i []
row_at f rows i row below is = ap f is ∙ sym (get_or-map f rows i row [] below)

-- one row more
pub rows_more : {X Y : Type 0} (f : X → List Y) (rows more_rows : List X) (row : X) → more_rows ≡ rows ++ row ∷ []
    → map f more_rows ≡ map f rows ++ f row ∷ []
rows_more f rows more_rows row one = ap (map f) one ∙ map-append f rows (row ∷ [])

-- what all share the last has
last_has : {X : Type 0} (P : X → Type 0) (xs : List X) (x : X) → All P (xs ++ x ∷ []) → P x
last_has P [] x all = All-head P x [] all
last_has P (y ∷ xs) x all = last_has P xs x (All-tail P y (xs ++ x ∷ []) all)

-- what holds of each element of a list holds of its last
pub All-last : {X : Type 0} (P : X → Type 0) (all xs : List X) (x : X) → all ≡ xs ++ x ∷ [] → All P all → P x
All-last P all xs x are each = last_has P xs x (All-same P (xs ++ x ∷ []) all (sym are) each)

-- and so have those before it
front_has : {X : Type 0} (P : X → Type 0) (xs ys : List X) → All P (xs ++ ys) → All P xs
front_has P [] ys all = All-nil P
front_has P (x ∷ xs) ys all = All-cons P x xs (All-head P x (xs ++ ys) all) (front_has P xs ys (All-tail P x (xs ++ ys) all))

-- what holds of each element of a list holds of each before its last
pub All-front : {X : Type 0} (P : X → Type 0) (all xs : List X) (x : X) → all ≡ xs ++ x ∷ [] → All P all → All P xs
All-front P all xs x are each = front_has P xs (x ∷ []) (All-same P (xs ++ x ∷ []) all (sym are) each)

-- one more of the values of numbers in a row
pub values_more : {Y : Type 0} (f : ℕ → Y) (n : ℕ) (ys more_ys : List Y) (y : Y) → ys ≡ map f (range_with_len 0 n)
    → more_ys ≡ ys ++ y ∷ []
    → y ≡ f n → more_ys ≡ map f (range_with_len 0 (n + 1))
values_more f n ys more_ys y are one is =
    one ∙ ((λ i. are i ++ is i ∷ []) ∙ sym (map-range_with_len_more f 0 n n (omega arith)))
