-- Lists whose newest element is last, seen from the newest on.
use Rattle.std.proofs.Common.{◌≡◌, ℕ, ◌+◌, ◌-◌, ◌<◌, List, [], ◌∷◌, ◌++◌, length, take, drop, map, get_or, sym, ap, ◌∙◌, refl, length-drop}
use Rattle.std.specs.Prelude.{reverse, sum, if◌then◌else◌, Some}
use Rattle.std.specs.List.{position_from}
use Rattle.std.specs.Str.{bytes_eq}
use Rattle.std.proofs.Math.Numerals.{add-one}
use Rattle.std.proofs.lemmas.List.{reverse-append, length-reverse, length-map, get_or-map, map-append, take-append-drop, take-map}
use Rattle.std.proofs.lemmas.List.Sums.{sum_by_more}
use Rattle.std.proofs.Math.Seq.{drop-append_seam, drop-cons}
use Rattle.sift_parse.specs.Force.{oldest}

-- the last comes first
pub reverse-map-pushed : {A B : Type 0} (f : A → B) (xs : List A) (y : A) → reverse (map f (xs ++ y ∷ [])) ≡ f y ∷ reverse (map f xs)
reverse-map-pushed f xs y = ap reverse (map-append f xs (y ∷ [])) ∙ reverse-append (map f xs) (f y ∷ [])

-- the oldest are the first ones
pub oldest-reverse : (n : ℕ) (xs : List (List ℕ)) → oldest n (reverse xs) ≡ reverse (take n xs)
oldest-reverse n xs =
    let a = reverse (drop n xs) in
    let b = reverse (take n xs) in
    let split : reverse xs ≡ a ++ b = ap reverse (sym (take-append-drop n xs)) ∙ reverse-append (take n xs) (drop n xs) in
    let count : length (reverse xs) - n ≡ length a = ap (λ k. k - n) (length-reverse xs) ∙ (sym (length-drop n xs) ∙ sym (length-reverse (drop n xs))) in
    ap (λ k. drop k (reverse xs)) count ∙ (ap (drop (length a)) split ∙ drop-append_seam a b)

-- of names listed from the last element on, the n oldest are those of the first n elements
pub oldest-reverse-map : {A : Type 0} (f : A → List ℕ) (n : ℕ) (xs : List A) → oldest n (reverse (map f xs)) ≡ reverse (map f (take n xs))
oldest-reverse-map f n xs = oldest-reverse n (map f xs) ∙ ap reverse (take-map f n xs)

-- ---- the last element

pub data Ending {A : Type 0} : List A → Type 0 where
  nothing : Ending []
  ending : (xs : List A) (y : A) → Ending (xs ++ y ∷ [])

-- ---- locals

-- ---- names

-- the search goes past an element
pub position_from-dropped : {A : Type 0} (f : A → List ℕ) (xs : List A) (i : ℕ) (d : A) (w : List ℕ) → i < length xs
    → position_from (λ v. bytes_eq v w) i
    (map f (drop i xs)) ≡ (if bytes_eq (f (get_or xs i d)) w then Some i else position_from (λ v. bytes_eq v w) (i + 1)
    (map f (drop (i + 1) xs)))
position_from-dropped f xs i d w lt = rw (add-one i) (ap (λ ys. position_from (λ v. bytes_eq v w) i (map f ys)) (drop-cons xs i d lt) ∙ (rw (add-one i) refl))

-- ---- words

-- the words of one more task
pub sum-taken : {A : Type 0} (f : A → ℕ) (xs : List A) (i : ℕ) (d : A) → i < length xs
    → sum (take (i + 1) (map f xs)) ≡ sum (take i (map f xs)) + f (get_or xs i d)
sum-taken f xs i d lt = sum_by_more (λ x. x) (map f xs) i (f d) (rw (length-map xs f) lt) ∙ ap (λ n. sum (take i (map f xs)) + n) (get_or-map f xs i d (f d) lt)
