-- Lists that are made of other lists.
use Rattle.std.proofs.Common.{ℕ, sum, take, ◌≡◌, List, [], ◌∷◌, map, Bool, ◌||◌, ap, refl, inl, inr, Option, Some, None}
use Rattle.std.proofs.lemmas.Bool.{cases_Bool}
use Rattle.std.specs.List.{find, list_any}
use Rattle.std.specs.Option.{option_map}

-- the number of a task's first output word, where the tasks have so many
abbrev pub first_word_of : List ℕ → ℕ → ℕ
first_word_of outputs task = sum (take task outputs)

-- a test of what is made of each element
pub list_any-map : {X Y : Type 0} (f : X → Y) (p : Y → Bool) (xs : List X) → list_any p (map f xs) ≡ list_any (λ x. p (f x)) xs
list_any-map f p [] = refl
list_any-map f p (x ∷ xs) = ap (λ b. p (f x) || b) (list_any-map f p xs)

-- the first that passes a test, of what is made of each element
pub find-map : {X Y : Type 0} (f : X → Y) (p : Y → Bool) (xs : List X) → find p (map f xs) ≡ option_map f (find (λ x. p (f x)) xs)
find-map f p [] = refl
find-map f p (x ∷ xs) = elim (cases_Bool (p (f x))) [
  | inl t ↦ rw t refl
  | inr e ↦ rw e (find-map f p xs)
]

-- two steps of making are one
pub option_map-twice : {X Y Z : Type 0} (f : X → Y) (g : Y → Z) (o : Option X) → option_map g (option_map f o) ≡ option_map (λ x. g (f x)) o
option_map-twice f g None = refl
option_map-twice f g (Some x) = refl
