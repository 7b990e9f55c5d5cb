-- What the jumps of compiled code bring, and where.
use Rattle.std.proofs.Common.{◌≡◌, ℕ, ◌<◌, ◌≤◌, Bool, true, false, List, [], ◌∷◌, refl, ap, ◌∙◌, arith, inl, inr}
use Rattle.std.specs.Prelude.{◌==◌, ◌⊎◌, if◌then◌else◌}
use Rattle.std.specs.List.{All}
use Rattle.std.proofs.lemmas.Bool.Decides.{nat_tests}
use Rattle.std.proofs.lemmas.List.Elements.{All-head, All-cons, All-nil}
use Rattle.sift_code.specs.Heights.{Arrival, brought_to, behind_jump}

-- an arrival with nothing on the stack
abbrev pub empty_at : ℕ → Arrival
empty_at p = record { place = p; height = 0 }

-- each arrival brings an empty stack, to one of the places up to the first or from the second on
abbrev pub IsClear : ℕ → ℕ → List Arrival → Type 0
IsClear from to [] = Unit {0}
IsClear from to (a ∷ rest) = (a.height ≡ 0) × ((a.place ≤ from) ⊎ (to ≤ a.place)) × IsClear from to rest

narrowed : (from to f t place : ℕ) → from ≤ f → t ≤ to → (place ≤ from) ⊎ (to ≤ place) → (place ≤ f) ⊎ (t ≤ place)
narrowed from to f t place a b (inl x) = inl (omega arith)
narrowed from to f t place a b (inr x) = inr (omega arith)

-- arrivals that keep clear of the places between two keep clear of each part of these places
pub clear_narrow : (from to f t : ℕ) (arrivals : List Arrival) → from ≤ f → t ≤ to → IsClear from to arrivals → IsClear f t arrivals
clear_narrow from to f t [] a b clear = tt
clear_narrow from to f t (x ∷ rest) a b clear =
    (clear.0, narrowed from to f t x.place a b clear.1, clear_narrow from to f t rest a b clear.2)

-- the heights that meet at a place are all 0
pub clear_meets : (from to p : ℕ) (arrivals : List Arrival) → IsClear from to arrivals → All (λ height. height ≡ 0) (brought_to p arrivals)
clear_meets from to p [] clear = All-nil (λ height. height ≡ 0)
clear_meets from to p (a ∷ rest) clear = by (a.place == p) (clear_meets from to p rest clear.2)
  where
    by : (b : Bool) → All (λ height. height ≡ 0) (brought_to p rest) → All (λ height. height ≡ 0) (if b then a.height ∷ brought_to p rest else brought_to p rest)
    by true all = All-cons (λ height. height ≡ 0) a.height (brought_to p rest) clear.0 all
    by false all = all

elsewhere : (from to p place : ℕ) → from < p → p < to → (place ≤ from) ⊎ (to ≤ place) → (place == p) ≡ false
elsewhere from to p place a b (inl x) = grind (arith, nat_tests)
elsewhere from to p place a b (inr x) = grind (arith, nat_tests)

-- nothing is brought to a place between
pub clear_quiet : (from to p : ℕ) (arrivals : List Arrival) → IsClear from to arrivals → from < p → p < to → brought_to p arrivals ≡ []
clear_quiet from to p [] clear a b = refl
clear_quiet from to p (x ∷ rest) clear a b =
    ap (λ (t : Bool). if t then x.height ∷ brought_to p rest else brought_to p rest) (elsewhere from to p x.place a b clear.1)
    ∙ clear_quiet from to p rest clear.2 a b

-- behind a Jump the stack is empty, whether something was brought there or not
pub behind_empty : (heights : List ℕ) → All (λ height. height ≡ 0) heights → behind_jump heights 0 ≡ 0
behind_empty [] all = refl
behind_empty (h ∷ rest) all = All-head (λ height. height ≡ 0) h rest all

-- the later arrivals are the earlier ones, and more that bring an empty stack to places up to this one
pub data Grown : ℕ → List Arrival → List Arrival → Type 0 where
  as_before : (last : ℕ) (arrivals : List Arrival) → Grown last arrivals arrivals
  one_grown : (last p : ℕ) (before arrivals : List Arrival) → p ≤ last → Grown last before arrivals → Grown last before (empty_at p ∷ arrivals)

-- arrivals that grew from some to others, and from these to others again, grew from the first to the last, up to the same place
pub grown_on : (last : ℕ) (a b c : List Arrival) → Grown last a b → Grown last b c → Grown last a c
grown_on last a b c g (as_before n arrivals) = g
grown_on last a b c g (one_grown n p before arrivals le h) = one_grown last p a arrivals le (grown_on last a b arrivals g h)

-- arrivals that grew up to a place grew up to each later place
pub grown_later : (m n : ℕ) (a b : List Arrival) → m ≤ n → Grown m a b → Grown n a b
grown_later m n a b le (as_before l arrivals) = as_before n arrivals
grown_later m n a b le (one_grown l p before arrivals lt h) = one_grown n p a arrivals (omega arith) (grown_later m n a arrivals le h)

-- arrivals that keep clear of the places between two still do where they have grown up to the first of the two or an earlier place
pub clear_grown : (last from to : ℕ) (a b : List Arrival) → last ≤ from → Grown last a b → IsClear from to a → IsClear from to b
clear_grown last from to a b le (as_before l arrivals) clear = clear
clear_grown last from to a b le (one_grown l p before arrivals lt h) clear = (refl, inl (omega arith), clear_grown last from to a arrivals le h clear)
