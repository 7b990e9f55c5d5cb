-- What is made of each number below another.
use Rattle.std.proofs.Common.{◌≡◌, ◌<◌, ◌≤◌, ◌+◌, ℕ, zero, suc, List, [], ◌∷◌, map, Some, refl, sym, ap, subst, ◌∙◌, arith}
use Rattle.std.proofs.lemmas.List.FromFn.{get_or-map-range_with_len, length-map-range_with_len}
use Rattle.std.proofs.lemmas.Option.{get_or_from_slice_get, slice_get-get_or, slice_get_within}
use Rattle.std.specs.List.{All, range_with_len, slice_get}
use Rattle.sift_document.specs.Rules.{AreMatched, HoldsOf}

module _ {A : Type 0} (f : ℕ → A) (n : ℕ) where
  -- what stands at a place is made of the place's number
  pub at_place : (k : ℕ) (x : A) → slice_get (map f (range_with_len 0 n)) k ≡ Some x → (k < n) × (f k ≡ x)
  at_place k x found =
      let within = slice_get_within (map f (range_with_len 0 n)) k x found in
      let low : k < n = omega (arith, within, length-map-range_with_len f 0 n) in
      (low, sym (get_or-map-range_with_len f 0 n k k x low (omega arith)) ∙ get_or_from_slice_get (map f (range_with_len 0 n)) k x x found)

  -- so it stands there
  pub stands : (k : ℕ) → k < n → slice_get (map f (range_with_len 0 n)) k ≡ Some (f k)
  stands k low =
      slice_get-get_or (map f (range_with_len 0 n)) k (f k) (omega (arith, low, length-map-range_with_len f 0 n))
      ∙ ap (λ (x : A). Some x) (get_or-map-range_with_len f 0 n k k (f k) low (omega arith))

  -- what holds of none of them holds of no entry
  pub nowhere : (P : ℕ → A → Type 0) → ((k : ℕ) → k < n → ¬ P k (f k)) → (place : ℕ) → ¬ HoldsOf (map f (range_with_len 0 n)) place (P place)
  nowhere P fails place found =
      let at = at_place place found.entry found.there in
      fails place at.0 (subst (P place) (sym at.1) found.holds)

  -- what holds of each of them holds of each entry
  pub everywhere : (P : A → Type 0) → ((k : ℕ) → k < n → P (f k)) → All P (map f (range_with_len 0 n))
  everywhere P holds k d low =
      let within : k < n = omega (arith, low, length-map-range_with_len f 0 n) in
      subst P (sym (get_or-map-range_with_len f 0 n k k d within (omega arith))) (holds k within)

-- entries that are made of the same numbers match
pub matched :
    {A B : Type 0} (R : ℕ → A → B → Type 0) (f : ℕ → A) (g : ℕ → B) (n : ℕ) → ((k : ℕ) → k < n → R k (f k) (g k))
    → AreMatched R (map f (range_with_len 0 n)) (map g (range_with_len 0 n))
matched {A} {B} R f g n each = record {
  as_many = length-map-range_with_len g 0 n ∙ sym (length-map-range_with_len f 0 n);
  each = λ place entry found.
      let at = at_place g n place entry found in
      record { entry = f place; there = stands f n place at.0; holds = subst (λ (y : B). R place (f place) y) at.1 (each place at.0) };
}

-- what is made in two steps
pub made_of : {A B : Type 0} (g : A → B) (f : ℕ → A) (ks : List ℕ) → map g (map f ks) ≡ map (λ k. g (f k)) ks
made_of g f [] = refl
made_of g f (k ∷ ks) = ap (λ ys. g (f k) ∷ ys) (made_of g f ks)

-- what is made of each number in the same way
pub made_alike : {A : Type 0} (f g : ℕ → A) (a n : ℕ) → ((k : ℕ) → a ≤ k → k < a + n → f k ≡ g k) → map f (range_with_len a n) ≡ map g (range_with_len a n)
made_alike f g a zero alike = refl
made_alike {A} f g a (suc n) alike =
    ap (λ (y : A). y ∷ map f (range_with_len (a + 1) n)) (alike a (omega arith) (omega arith))
    ∙ ap (λ ys. g a ∷ ys) (made_alike f g (a + 1) n (λ k from to. alike k (omega (arith, from)) (omega (arith, to))))
