-- Arrays and tables of a document, beside the lists that hold them.
use Rattle.std.proofs.Common.{◌≡◌, ◌≢◌, ◌<◌, ◌≤◌, ◌⊎◌, inl, inr, ℕ, List, [], ◌∷◌, length, get_or, map, String, Global, string_bytes, Some, refl, ap, subst, sym, ◌∙◌, arith}
use Rattle.std.proofs.lemmas.List.{get_or-map, length-map}
use Rattle.std.proofs.lemmas.Option.{get_or_from_slice_get, slice_get_within}
use Rattle.std.proofs.lemmas.List.Elements.{All-map}
use Rattle.std.specs.List.{All, Contains, slice_get}
use Rattle.toml.specs.Data.{Data, string, integer, float, boolean, datetime, array, table, Items, as_array}
use Rattle.toml.specs.View.{items_view, members_view, view}
use Rattle.toml.specs.declared.value.Value.{Value}
use Rattle.sift_document.specs.Document.{IsArrayOf, entries_of, keys_of, list_of}

-- an array's data, from its items
pub array_from : (d : Data) (items : Items) → Some items ≡ as_array d → d ≡ array items
array_from (array xs) items same = cc
array_from (string s) items same = cc
array_from (integer z) items same = cc
array_from (float x) items same = cc
array_from (boolean b) items same = cc
array_from (datetime t) items same = cc
array_from (table ms) items same = cc

-- the entries of an array are the values that it holds
pub list_of-view : (vs : List Value) → list_of (items_view vs) ≡ map view vs
list_of-view [] = refl
list_of-view (v ∷ vs) = ap (λ ds. view v ∷ ds) (list_of-view vs)

-- so are those of a value that is an array
pub entries_of-values : (d : Data) (vs : List Value) → Some (items_view vs) ≡ as_array d → map view vs ≡ entries_of (Some d)
entries_of-values d vs is = rw (array_from d _ is) (sym (list_of-view vs))

-- they are those of its items
pub array_entries : (value : Data) (items : Items) → as_array value ≡ Some items → entries_of (Some value) ≡ list_of items
array_entries value items there = rw (array_from value items (sym there)) refl

-- ---- how many entries there are

-- an array of the values has so many as there are
pub is_array : (low high : ℕ) (d : Data) (vs : List Value) → Some (items_view vs) ≡ as_array d → low ≤ length vs → length vs ≤ high → IsArrayOf low high d
is_array low high d vs is from to =
    let long : length (list_of (items_view vs)) ≡ length vs = ap length (list_of-view vs) ∙ length-map vs view in record {
      items = items_view vs;
      there = sym is;
      enough = omega (arith, long, from);
      few = omega (arith, long, to);
    }

-- and no other number
pub no_array :
    (low high : ℕ) (d : Data) (vs : List Value) → Some (items_view vs) ≡ as_array d → (length vs < low) ⊎ (high < length vs) → IsArrayOf low high d → ⊥
no_array low high d vs is outside right =
    let both : Some right.items ≡ Some (items_view vs) = sym right.there ∙ sym is in
    let one : right.items ≡ items_view vs = cc both in
    let long : length (list_of right.items) ≡ length vs = ap (λ (xs : Items). length (list_of xs)) one ∙ ap length (list_of-view vs) ∙ length-map vs view in
    elim outside [
      | inl short ↦ omega (arith, long, short, right.enough)
      | inr more ↦ omega (arith, long, more, right.few)
    ]

-- ---- one among others

module _ {A X : Type 0} (f : A → X) (xs : List A) (wanted : X) where
  -- what stands at a place is among them
  pub among-here : (k : ℕ) (x : A) → k < length xs → f (get_or xs k x) ≡ wanted → Contains (map f xs) wanted
  among-here k x low is = (k, rw length-map low, get_or-map f xs k x wanted low ∙ is)

  -- another stands at a place
  pub among-other : (k : ℕ) (x : A) → k < length xs → f (get_or xs k x) ≢ wanted → get_or (map f xs) k wanted ≢ wanted
  among-other k x low differs equal = differs (sym (get_or-map f xs k x wanted low) ∙ equal)

  -- what stands at no place isn't among them
  pub among-none : ((k : ℕ) → k < length xs → get_or (map f xs) k wanted ≢ wanted) → ¬ Contains (map f xs) wanted
  among-none none there = none there.0 (omega (arith, length-map xs f, there.1)) there.2

-- ---- the keys of a table

-- the keys of a table are those of the map that holds it
keys_of-view : (entries : List (String Global × Value)) → keys_of (members_view entries) ≡ map string_bytes (map (λ e. e.0) entries)
keys_of-view [] = refl
keys_of-view (e ∷ es) = ap (λ keys. string_bytes e.0 ∷ keys) (keys_of-view es)

-- what holds of each key of the map holds of each key of the table
pub All-keys_of :
    (P : List ℕ → Type 0) (entries : List (String Global × Value))
    → All (λ key. P (string_bytes key)) (map (λ e. e.0) entries)
    → All P (keys_of (members_view entries))
All-keys_of P entries each = rw (keys_of-view entries) (All-map P string_bytes (map (λ e. e.0) entries) each)

-- what holds of each key of the table holds of a key of the map
pub at_key :
    (P : List ℕ → Type 0) (entries : List (String Global × Value)) (i : ℕ) (key : String Global)
    → All P (keys_of (members_view entries))
    → slice_get (map (λ e. e.0) entries) i ≡ Some key
    → P (string_bytes key)
at_key P entries i key each is =
    let names : List (String Global) = map (λ e. e.0) entries in
    let low : i < length names = slice_get_within names i key is in
    let here : get_or (keys_of (members_view entries)) i [] ≡ string_bytes key =
    rw (keys_of-view entries) (get_or-map string_bytes names i key [] low ∙ ap string_bytes (get_or_from_slice_get names i key key is)) in
    subst P here (each i [] (rw (keys_of-view entries, length-map names string_bytes) low))
