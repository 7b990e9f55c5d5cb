-- What stands at a place of a list that is made of lists of one length.
use Rattle.std.proofs.Common.{◌≡◌, ℕ, zero, suc, ◌+◌, ◌*◌, ◌<◌, List, [], ◌∷◌, ◌++◌, length, map, Some, refl, ap, ◌∙◌, arith, append_assoc}
use Rattle.std.specs.List.{flat_map, range_with_len, slice_get}
use Rattle.std.proofs.lemmas.List.{length-append}

-- a place within the first of two lists
pub get-left : {A : Type 0} (xs ys : List A) (i : ℕ) → i < length xs → slice_get (xs ++ ys) i ≡ slice_get xs i
get-left [] ys i low = absurd (omega arith)
get-left (x ∷ xs) ys zero low = refl
get-left (x ∷ xs) ys (suc i) low = get-left xs ys i (omega arith)

-- a place behind it
pub get-right : {A : Type 0} (xs ys : List A) (i j : ℕ) → j ≡ length xs + i → slice_get (xs ++ ys) j ≡ slice_get ys i
get-right [] ys i j e = ap (slice_get ys) (omega arith)
get-right (x ∷ xs) ys i zero e = absurd (omega arith)
get-right (x ∷ xs) ys i (suc j) e = get-right xs ys i j (omega arith)

module _ {A : Type 0} (g : ℕ → List A) (k : ℕ) (each : (f : ℕ) → length (g f) ≡ k) (rest : List A) where
  -- place i of list f, of lists of length k
  pub get-chunk : (a n f i j : ℕ) → f < n → i < k → j ≡ f * k + i →
      slice_get (flat_map g (range_with_len a n) ++ rest) j ≡ slice_get (g (a + f)) i
  get-chunk a zero f i j low in_chunk e = absurd (omega arith)
  get-chunk a (suc n) zero i j low in_chunk e =
      let at : j ≡ i = omega arith in
      rw (at, append_assoc (g a) (flat_map g (range_with_len (a + 1) n)) rest)
      (get-left (g a) (flat_map g (range_with_len (a + 1) n) ++ rest) i (rw (each a) in_chunk) ∙ ap (λ x. slice_get (g x) i) (omega arith))
  get-chunk a (suc n) (suc f) i j low in_chunk e =
      rw (append_assoc (g a) (flat_map g (range_with_len (a + 1) n)) rest)
      (get-right (g a) (flat_map g (range_with_len (a + 1) n) ++ rest) (f * k + i) j (rw (each a) (grind arith))
      ∙ (get-chunk (a + 1) n f i (f * k + i) (omega arith) in_chunk refl ∙ ap (λ x. slice_get (g x) i) (omega arith)))

  -- a place behind all of them
  pub get-behind : (a n i j : ℕ) → j ≡ n * k + i → slice_get (flat_map g (range_with_len a n) ++ rest) j ≡ slice_get rest i
  get-behind a zero i j e = ap (slice_get rest) (omega arith)
  get-behind a (suc n) i j e =
      rw (append_assoc (g a) (flat_map g (range_with_len (a + 1) n)) rest)
      (get-right (g a) (flat_map g (range_with_len (a + 1) n) ++ rest) (n * k + i) j (rw (each a) (grind arith)) ∙ get-behind (a + 1) n i (n * k + i) refl)

  -- how many elements there are
  pub length-chunks : (a n : ℕ) → length (flat_map g (range_with_len a n)) ≡ n * k
  length-chunks a zero = omega arith
  length-chunks a (suc n) =
      length-append (g a) (flat_map g (range_with_len (a + 1) n)) ∙ rw (each a, length-chunks (a + 1) n) (grind arith)

-- what a list of the first numbers makes at a place
pub get-first : {A : Type 0} (g : ℕ → A) (a n i : ℕ) → i < n → slice_get (map g (range_with_len a n)) i ≡ Some (g (a + i))
get-first g a zero i low = absurd (omega arith)
get-first g a (suc n) zero low = ap (λ x. Some (g x)) (omega arith)
get-first g a (suc n) (suc i) low = get-first g (a + 1) n i (omega arith) ∙ ap (λ x. Some (g x)) (omega arith)
