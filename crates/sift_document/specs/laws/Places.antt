-- Entries at their places, beside the loops that take them in turn.
use Rattle.std.proofs.Common.{◌≡◌, ◌<◌, ◌+◌, ◌⊎◌, inl, inr, ℕ, zero, suc, List, [], ◌∷◌, ◌++◌, length, get_or, map, take, Some, refl, sym, ap, subst, ◌∙◌}
use Rattle.std.proofs.lemmas.List.{get_or-map, length-map, map-append, take_more}
use Rattle.std.proofs.lemmas.Option.{slice_get-map, slice_get_read, slice_get_within}
use Rattle.std.specs.List.{slice_get}
use Rattle.sift_document.specs.Rules.{EachMatches, HoldsOf}

-- the entry that a loop takes is the one at its place
pub taken : {A B : Type 0} (f : A → B) (xs : List A) (i : ℕ) (x : A) → i < length xs → x ≡ get_or xs i x → slice_get (map f xs) i ≡ Some (f x)
taken f xs i x low is = rw (slice_get-map f xs i, slice_get_read xs _ i x refl low is) refl

-- with it, the entries so far are one more
pub so_far : {A B : Type 0} (f : A → B) (xs : List A) (i : ℕ) (x : A) → i < length xs → x ≡ get_or xs i x → take (i + 1) (map f xs) ≡ take i (map f xs) ++ f x ∷ []
so_far f xs i x low is =
    let here : get_or (map f xs) i (f x) ≡ f x = get_or-map f xs i x (f x) low ∙ ap f (sym is) in
    take_more (map f xs) i (f x) (rw length-map low) ∙ ap (λ y. take i (map f xs) ++ y ∷ []) here

-- what is read of the entries so far is one more
pub read_more :
    {A B C : Type 0} (shown : C → B) (f : A → B) (xs : List A) (old new : List C) (i : ℕ) (x : A) (c : C)
    → i < length xs → x ≡ get_or xs i x → map shown old ≡ take i (map f xs) → new ≡ old ++ c ∷ [] → shown c ≡ f x
    → map shown new ≡ take (i + 1) (map f xs)
read_more shown f xs old new i x c low is so added same =
    rw (added, map-append, so, same) (sym (so_far f xs i x low is))

-- what is made of the entries in two steps
pub in_two_steps : {A B C : Type 0} (g : B → C) (f : A → B) (n : ℕ) (xs : List A) → take n (map (λ x. g (f x)) xs) ≡ map g (take n (map f xs))
in_two_steps g f zero xs = refl
in_two_steps g f (suc n) [] = refl
in_two_steps g f (suc n) (x ∷ xs) = ap (λ ys. g (f x) ∷ ys) (in_two_steps g f n xs)

-- a list mapped by two functions in turn is mapped by the first, and what comes of that by the second
pub map_map : {A B C : Type 0} (g : B → C) (f : A → B) (xs : List A) → map (λ x. g (f x)) xs ≡ map g (map f xs)
map_map g f [] = refl
map_map g f (x ∷ xs) = ap (λ ys. g (f x) ∷ ys) (map_map g f xs)

-- where two lists are read as the same, so are their entries at a place
pub same_at :
    {A B C : Type 0} (f : A → C) (g : B → C) (xs : List A) (ys : List B) (i : ℕ) (x : A) (y : B)
    → map f xs ≡ map g ys → i < length xs → x ≡ get_or xs i x → i < length ys → y ≡ get_or ys i y → f x ≡ g y
same_at f g xs ys i x y same low is low' is' =
    let both : Some (f x) ≡ Some (g y) = sym (taken f xs i x low is) ∙ ap (λ zs. slice_get zs i) same ∙ taken g ys i y low' is' in
    cc both

module _ {A B : Type 0} (f : A → B) (xs : List A) (P : ℕ → B → Type 0) where
  -- what holds of the entry that a loop takes holds at its place
  pub holds_here : (i : ℕ) (x : A) → i < length xs → x ≡ get_or xs i x → P i (f x) → HoldsOf (map f xs) i (P i)
  holds_here i x low is holds = record { entry = f x; there = taken f xs i x low is; holds = holds }

  -- what doesn't hold of it doesn't hold there
  pub fails_here : (i : ℕ) (x : A) → i < length xs → x ≡ get_or xs i x → (P i (f x) → ⊥) → ¬ HoldsOf (map f xs) i (P i)
  fails_here i x low is fails found =
      let same : Some found.entry ≡ Some (f x) = sym found.there ∙ taken f xs i x low is in
      let entry_is : found.entry ≡ f x = cc same in
      fails (subst (P i) entry_is found.holds)

  -- what holds at no place below the length holds nowhere
  pub nowhere : ((at : ℕ) → at < length xs → ¬ HoldsOf (map f xs) at (P at)) → (at : ℕ) → ¬ HoldsOf (map f xs) at (P at)
  nowhere none at found =
      none at (rw (← length-map xs f) (slice_get_within (map f xs) at found.entry found.there)) found

-- an entry of a list with one more at the end is one of the list, or that one
pub pushed : {A : Type 0} (xs : List A) (y : A) (i : ℕ) (x : A) → slice_get (xs ++ y ∷ []) i ≡ Some x → (slice_get xs i ≡ Some x) ⊎ ((i ≡ length xs) × (y ≡ x))
pushed [] y zero x there = inr (refl, cc there)
pushed [] y (suc i) x there = cc
pushed (z ∷ zs) y zero x there = inl there
pushed (z ∷ zs) y (suc i) x there = elim (pushed zs y i x there) [
  | inl before ↦ inl before
  | inr at_end ↦ inr (ap suc at_end.0, at_end.1)
]

module _ {A B : Type 0} (R : ℕ → A → B → Type 0) (others : List A) where
  -- one more entry that matches
  pub matches_more :
      (entries : List B) (i : ℕ) (other : A) (entry : B)
      → EachMatches R others entries → i ≡ length entries → slice_get others i ≡ Some other → R i other entry
      → EachMatches R others (entries ++ entry ∷ [])
  matches_more entries i other entry each end there matches place found is = elim (pushed entries entry place found is) [
    | inl before ↦ each place found before
    | inr at_end ↦
        let here : i ≡ place = end ∙ sym at_end.0 in
        subst (λ (p : ℕ). HoldsOf others p (λ o. R p o found)) here
        (record { entry = other; there = there; holds = subst (λ (e : B). R i other e) at_end.1 matches })
  ]
