-- What is read of the entries of an array, one after another.
use Rattle.std.proofs.Common.{◌≡◌, ◌≢◌, ◌<◌, ◌≤◌, ◌+◌, ◌⊎◌, inl, inr, ℕ, zero, suc, List, [], ◌∷◌, ◌++◌, length, get_or, map, take, Option, Some, None, refl, sym, ap, ◌∙◌, arith}
use Rattle.std.proofs.lemmas.Bool.{cases_order}
use Rattle.std.proofs.lemmas.List.{get_or-map, length-map, take_all, take_more}
use Rattle.std.specs.Option.{option_and_then}
use Rattle.std.specs.Prelude.{nat_le, ◌&&◌, if◌then◌else◌, option_map}
use Rattle.toml.specs.Data.{Data, array, as_array}
use Rattle.toml.specs.View.{items_view, view}
use Rattle.toml.specs.declared.value.Value.{Value}
use Rattle.sift_document.specs.Document.{array_between, array_of, each_read}
use Rattle.sift_document.specs.laws.Arrays.{array_from, list_of-view}
use Rattle.sift_document.specs.laws.Places.{so_far}

-- what is read of a value and of those after it, where the whole is read
pub each_read-parts :
    {A : Type 0} (first : Option A) (rest : Option (List A)) (xs : List A)
    → option_and_then (λ value. option_map (λ values. value ∷ values) rest) first ≡ Some xs
    → (y : A) × (ys : List A) × (first ≡ Some y) × (rest ≡ Some ys) × (y ∷ ys ≡ xs)
each_read-parts (Some y) (Some ys) xs is = (y, ys, refl, refl, cc)
each_read-parts (Some y) None xs is = cc
each_read-parts None rest xs is = cc

-- the two parts are the whole, and without those after it there is nothing
each_read-joined :
    {A : Type 0} (first : Option A) (rest : Option (List A)) (y : A) (ys : List A) → first ≡ Some y → rest ≡ Some ys
    → option_and_then (λ value. option_map (λ values. value ∷ values) rest) first ≡ Some (y ∷ ys)
each_read-joined first rest y ys here after = rw (here, after) refl

each_read-cut : {A : Type 0} (first : Option A) → option_and_then (λ value. option_map (λ values. value ∷ values) None) first ≡ None
each_read-cut None = refl
each_read-cut (Some y) = refl

module _ {A B : Type 0} (read : A → Option B) where
  -- one value more at the end
  pub each_read-push : (ins : List A) (a : A) (xs : List B) (x : B) → each_read read ins ≡ Some xs → read a ≡ Some x → each_read read (ins ++ a ∷ []) ≡ Some (xs ++ x ∷ [])
  each_read-push [] a xs x before is =
      let none : [] ≡ xs = cc in
      rw (is, ← none) refl
  each_read-push (b ∷ bs) a xs x before is =
      let parts = each_read-parts (read b) (each_read read bs) xs before in
      let more = each_read-push bs a parts.1 x parts.3 is in
      each_read-joined (read b) (each_read read (bs ++ a ∷ [])) parts.0 (parts.1 ++ x ∷ []) parts.2 more
      ∙ ap (λ (ws : List B). Some (ws ++ x ∷ [])) parts.4

  -- there is ins much ins there are values
  pub length-each_read : (ins : List A) (xs : List B) → each_read read ins ≡ Some xs → length xs ≡ length ins
  length-each_read [] xs is = let none : [] ≡ xs = cc in rw (← none) refl
  length-each_read (a ∷ ins) xs is =
      let parts = each_read-parts (read a) (each_read read ins) xs is in
      rw (← parts.4) (ap suc (length-each_read ins parts.1 parts.3))

  -- a value of which nothing is read spoils the whole
  pub each_read-none : (ins : List A) (i : ℕ) (d : A) → i < length ins → read (get_or ins i d) ≡ None → each_read read ins ≡ None
  each_read-none [] i d low is = absurd (omega (arith, low))
  each_read-none (a ∷ ins) zero d low is = rw is refl
  each_read-none (a ∷ ins) (suc i) d low is =
      let rest = each_read-none ins i d (omega (arith, low)) is in
      rw rest (each_read-cut (read a))

-- ---- lengths

-- a list that has from `low` to `high` entries
abbrev pub of_length : {A : Type 0} → (low high : ℕ) → List A → Option (List A)
of_length low high list = if nat_le low (length list) && nat_le (length list) high then Some list else None

-- a list of a length between the two, and one of another
of_length-within : {A : Type 0} (low high : ℕ) (xs : List A) → low ≤ length xs → length xs ≤ high → of_length low high xs ≡ Some xs
of_length-within low high xs from to = grind arith

of_length-outside : {A : Type 0} (low high : ℕ) (xs : List A) → (length xs < low) ⊎ (high < length xs) → of_length low high xs ≡ None
of_length-outside low high xs (inl short) = grind arith
of_length-outside low high xs (inr long) = grind arith

-- a list that is kept for its length has it
of_length-long : {A : Type 0} (low high : ℕ) (xs ys : List A) → of_length low high xs ≡ Some ys → (low ≤ length ys) × (length ys ≤ high)
of_length-long low high xs ys is = grind arith

-- what has another length isn't kept
lengthless : {A : Type 0} (low high n : ℕ) (xs : Option (List A)) → (n < low) ⊎ (high < n)
    → ((ys : List A) → xs ≡ Some ys → length ys ≡ n) → option_and_then (of_length low high) xs ≡ None
lengthless low high n None outside long = refl
lengthless low high n (Some ys) outside long = of_length-outside low high ys (rw (long ys refl) outside)

-- what is kept has a length between the two
kept-long : {A : Type 0} (low high : ℕ) (xs : Option (List A)) (ys : List A) → option_and_then (of_length low high) xs ≡ Some ys → (low ≤ length ys) × (length ys ≤ high)
kept-long low high None ys is = cc
kept-long low high (Some xs) ys is = of_length-long low high xs ys is

-- another length than the one that is asked for is below or above it
pub differing : (m n : ℕ) → m ≢ n → (m < n) ⊎ (n < m)
differing m n other = elim (cases_order m n) [
  | inl same ↦ absurd (other same)
  | inr (inl less) ↦ inl less
  | inr (inr more) ↦ inr more
]

-- what is read of an array of so many entries is ins much
pub array_between-long : {A : Type 0} (low high : ℕ) (read : Data → Option A) (d : Data) (xs : List A) → array_between low high read d ≡ Some xs → (low ≤ length xs) × (length xs ≤ high)
array_between-long low high read d xs is = kept-long low high (array_of read d) xs is

-- ---- arrays

module _ {A : Type 0} (read : Data → Option A) where
  -- nothing is read of an array of another length
  pub array_between-other : (low high : ℕ) (vs : List Value) → (length vs < low) ⊎ (high < length vs) → array_between low high read (array (items_view vs)) ≡ None
  array_between-other low high vs outside = rw (list_of-view vs) (lengthless low high (length vs) (each_read read (map view vs)) outside
      (λ xs is. length-each_read read (map view vs) xs is ∙ length-map vs view))

  -- of an array of the right length what is read of its values
  pub array_between-whole :
      (low high : ℕ) (vs : List Value) (xs : List A) → low ≤ length vs → length vs ≤ high
      → each_read read (map view vs) ≡ Some xs → array_between low high read (array (items_view vs)) ≡ Some xs
  array_between-whole low high vs xs from to is =
      let same : length xs ≡ length vs = length-each_read read (map view vs) xs is ∙ length-map vs view in
      rw (list_of-view vs, is) (of_length-within low high xs (omega (arith, same, from)) (omega (arith, same, to)))

  -- nothing where nothing is read of one of its values
  pub array_between-none :
      (low high : ℕ) (vs : List Value) (i : ℕ) (d : Data) → i < length (map view vs)
      → read (get_or (map view vs) i d) ≡ None → array_between low high read (array (items_view vs)) ≡ None
  array_between-none low high vs i d low_i is = rw (list_of-view vs, each_read-none read (map view vs) i d low_i is) refl

-- ---- values, one after another

module _ {A B : Type 0} (read : A → Option B) (ins : List A) where
  -- one entry more
  pub read-step :
      (i : ℕ) (d : A) (xs : List B) (x : B) → i < length ins → each_read read (take i ins) ≡ Some xs
      → read (get_or ins i d) ≡ Some x → each_read read (take (i + 1) ins) ≡ Some (xs ++ x ∷ [])
  read-step i d xs x low before is = rw (take_more ins i d low) (each_read-push read (take i ins) (get_or ins i d) xs x before is)

  -- all entries
  pub read-all : (i : ℕ) (xs : List B) → length ins ≤ i → each_read read (take i ins) ≡ Some xs → each_read read ins ≡ Some xs
  read-all i xs high is = rw (take_all i ins high) at is

module _ {B : Type 0} (read : Data → Option B) (vs : List Value) where
  -- one value more
  pub value-step :
      (i : ℕ) (v : Value) (xs : List B) (x : B) → i < length vs → v ≡ get_or vs i v
      → each_read read (take i (map view vs)) ≡ Some xs → read (view v) ≡ Some x → each_read read (take (i + 1) (map view vs)) ≡ Some (xs ++ x ∷ [])
  value-step i v xs x low is before found = rw (so_far view vs i v low is) (each_read-push read (take i (map view vs)) (view v) xs x before found)

  -- a value of which nothing is read
  pub value-none : (i : ℕ) (v : Value) → i < length vs → v ≡ get_or vs i v → read (view v) ≡ None → each_read read (map view vs) ≡ None
  value-none i v low is none =
      let here : get_or (map view vs) i (view v) ≡ view v = get_or-map view vs i v (view v) low ∙ ap view (sym is) in
      each_read-none read (map view vs) i (view v) (rw length-map low) (ap read here ∙ none)

  -- all values
  pub value-all : (i : ℕ) (xs : List B) → length vs ≤ i → each_read read (take i (map view vs)) ≡ Some xs → each_read read (map view vs) ≡ Some xs
  value-all i xs high is = read-all read (map view vs) i xs (rw length-map high) is

  -- what is read of the array that holds them
  pub array_of-values : (d : Data) → Some (items_view vs) ≡ as_array d → array_of read d ≡ each_read read (map view vs)
  array_of-values d is = rw (array_from d _ is, list_of-view vs) refl
