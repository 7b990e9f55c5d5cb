-- Arrays of tables, and what a document's rules ask of their entries.
use Rattle.std.proofs.Common.{◌≡◌, ◌≢◌, ◌<◌, ◌≤◌, ℕ, zero, suc, List, [], ◌∷◌, length, get_or, map, take, Some, refl, sym, ap, subst, ◌∙◌, arith}
use Rattle.std.proofs.lemmas.List.FromFn.{get_or-map-range_with_len, length-map-range_with_len, take-map-range_with_len}
use Rattle.std.specs.List.{range_with_len}
use Rattle.std.specs.Prelude.{unwrap_or}
use Rattle.toml.specs.Data.{Data, Members, table}
use Rattle.toml.specs.View.{items_of}
use Rattle.sift_base.specs.Name.{IsName}
use Rattle.sift_gen.specs.Scenario.{array_of}
use Rattle.sift_scenario.specs.Task.{IsNewName, name_of, names_of, BreaksNames}
use Rattle.sift_document.specs.Document.{IsArrayOf, list_of, members_of}
use Rattle.sift_document.specs.Rules.{HoldsOf}
use Rattle.sift_trial.proofs.Ranges.{made_alike, made_of, nowhere}

-- the entries of an array of a list are the list's
pub listed : (values : List Data) → list_of (items_of values) ≡ values
listed [] = refl
listed (value ∷ values) = ap (λ rest. value ∷ rest) (listed values)

-- a list of one entry, of which a fact doesn't hold
pub not_only : {A : Type 0} (x : A) (P : ℕ → A → Type 0) → ¬ P 0 x → (place : ℕ) → ¬ HoldsOf (x ∷ []) place (P place)
not_only {A} x P fails zero found = let same : x ≡ found.entry = cc found.there in fails (subst (P 0) (sym same) found.holds)
not_only x P fails (suc place) found = absurd (cc found.there)

module _ (f : ℕ → Members) (n : ℕ) where
  -- an array of so many tables
  abbrev pub tables : List Data
  tables = map (λ k. table (f k)) (range_with_len 0 n)

  -- the array has so many tables
  pub tables_long : length (list_of (items_of tables)) ≡ n
  tables_long = ap length (listed tables) ∙ length-map-range_with_len (λ k. table (f k)) 0 n

  -- it is an array of a length between two bounds, where so many tables lie between them
  pub is_array : (low high : ℕ) → low ≤ n → n ≤ high → IsArrayOf low high (array_of tables)
  is_array low high from to = record {
    items = items_of tables;
    there = refl;
    enough = omega (arith, tables_long, from);
    few = omega (arith, tables_long, to);
  }

  -- each of which is as it should be
  pub entries_kept :
      (IsEntry : ℕ → Data → Type 0) → ((k : ℕ) → k < n → IsEntry k (table (f k)))
      → (place : ℕ) → ¬ HoldsOf (list_of (items_of tables)) place (λ entry. ¬ IsEntry place entry)
  entries_kept IsEntry each place found =
      nowhere (λ k. table (f k)) n (λ k entry. ¬ IsEntry k entry) (λ k low fails. fails (each k low)) place
      (subst (λ (ds : List Data). HoldsOf ds place (λ entry. ¬ IsEntry place entry)) (listed tables) found)

  -- the members of each
  pub members_are : map members_of (list_of (items_of tables)) ≡ map f (range_with_len 0 n)
  members_are = ap (map members_of) (listed tables) ∙ made_of members_of (λ k. table (f k)) (range_with_len 0 n)

module _ (f : ℕ → Members) (name : ℕ → List ℕ) (n : ℕ) (named : (k : ℕ) → name_of (f k) ≡ Some (name k)) where
  -- an earlier table's name stands at its place
  earlier_name : (k i : ℕ) → k ≤ n → i < k → (d : List ℕ) → get_or (map name_of (take k (map f (range_with_len 0 n)))) i (Some d) ≡ Some (name i)
  earlier_name k i within before d =
      ap (λ (ms : List Members). get_or (map name_of ms) i (Some d)) (take-map-range_with_len f 0 n k within)
      ∙ ap (λ ns. get_or ns i (Some d)) (made_of name_of f (range_with_len 0 k))
      ∙ get_or-map-range_with_len (λ t. name_of (f t)) 0 k i i (Some d) before (omega arith)
      ∙ named i

  -- the rule of names is kept where no two names are one
  pub names_kept :
      ((k : ℕ) → k < n → IsName (name k)) → ((i k : ℕ) → i < k → k < n → name i ≢ name k)
      → (place : ℕ) → ¬ BreaksNames (map f (range_with_len 0 n)) place
  names_kept formed differ =
      let P : ℕ → Members → Type 0 = λ k entry. (text : List ℕ) → ¬ IsNewName (map name_of (take k (map f (range_with_len 0 n)))) entry text in
      nowhere f n P (λ k low fails. fails (name k) (record {
        stated = named k;
        form = formed k low;
        new = λ found.
            let first = map f (range_with_len 0 k) in
            let long : length (map name_of (take k (map f (range_with_len 0 n)))) ≡ k =
            ap (λ (ms : List Members). length (map name_of ms)) (take-map-range_with_len f 0 n k (omega (arith, low)))
            ∙ ap length (made_of name_of f (range_with_len 0 k)) ∙ length-map-range_with_len (λ t. name_of (f t)) 0 k in
            let before : found.0 < k = omega (arith, long, found.1) in
            let same : Some (name found.0) ≡ Some (name k) = sym (earlier_name k found.0 (omega (arith, low)) before (name k)) ∙ found.2 in
            differ found.0 k before low (cc same);
      }))

  -- the names are these
  pub names_are : names_of (map f (range_with_len 0 n)) ≡ map name (range_with_len 0 n)
  names_are =
      made_of (λ entry. unwrap_or (name_of entry) []) f (range_with_len 0 n)
      ∙ made_alike (λ k. unwrap_or (name_of (f k)) []) name 0 n (λ k from to. ap (λ o. unwrap_or o []) (named k))
