-- What is known of tables, arrays and entries: whether they have known keys and so many entries, and are as a section wants them.
use Rattle.std.proofs.Common.{◌≡◌, inl, inr, ℕ, List, length, Option, Some, None, ◌+◌, refl, sym, ap, subst, ◌∙◌, arith}
use Rattle.std.specs.Prelude.{codes}
use Rattle.toml.specs.Data.{Data, Items, Members, string, integer, float, boolean, datetime, array, table, get_member}
use Rattle.sift_base.specs.Layout.{least_units}
use Rattle.sift_document.specs.Document.{HasOnlyKeys, IsArrayOf, IsTableOf, entries_of, keys_of, list_of, members_of}
use Rattle.sift_sections.specs.Fault.{AreItems, StandsAlone, item_limit}
use Rattle.sift_sections.specs.Item.{item_keys}
use Rattle.sift_sections.specs.Table.{IsTableEntry, size_of, table_keys}
use Rattle.sift_sections.specs.laws.Decided.{Decided, among, at_most, both, each, either, nothing, same_text, same_value}
use Rattle.sift_sections.specs.laws.Named.{HasOneWay, storm_keys}

-- ---- keys and entries

-- the keys of a table are known, or not
pub known_keys : (known : List (List ℕ)) (members : Members) → Decided (HasOnlyKeys known members)
known_keys known members = each _ (λ key. among same_text known key) (keys_of members)

-- a value is a table with known keys, or not
pub known_table : (known : List (List ℕ)) (value : Data) → Decided (IsTableOf known value)
known_table known (table members) = elim (known_keys known members) [
  | inl keys ↦ inl (members, refl, keys)
  | inr other ↦ inr (λ h. let same : Some members ≡ Some h.0 = h.1 in
      let one : h.0 ≡ members = cc same in other (subst (HasOnlyKeys known) one h.2))
]
known_table known (string s) = inr (λ h. let e = h.1 in cc)
known_table known (integer z) = inr (λ h. let e = h.1 in cc)
known_table known (float x) = inr (λ h. let e = h.1 in cc)
known_table known (boolean b) = inr (λ h. let e = h.1 in cc)
known_table known (datetime t) = inr (λ h. let e = h.1 in cc)
known_table known (array xs) = inr (λ h. let e = h.1 in cc)

-- a value is an array of so many entries, or not
pub known_array : (low high : ℕ) (value : Data) → Decided (IsArrayOf low high value)
known_array low high (array items) = elim (both (at_most low (length (list_of items))) (at_most (length (list_of items)) high)) [
  | inl h ↦ inl (record { items = items; there = refl; enough = h.0; few = h.1 })
  | inr other ↦ inr (λ h. let same : Some items ≡ Some h.items = h.there in
      let one : h.items ≡ items = cc same in
      let long : length (list_of h.items) ≡ length (list_of items) = ap (λ (xs : Items). length (list_of xs)) one in
      other (omega (arith, long, h.enough), omega (arith, long, h.few)))
]
known_array low high (string s) = inr (λ h. let e = h.there in cc)
known_array low high (integer z) = inr (λ h. let e = h.there in cc)
known_array low high (float x) = inr (λ h. let e = h.there in cc)
known_array low high (boolean b) = inr (λ h. let e = h.there in cc)
known_array low high (datetime t) = inr (λ h. let e = h.there in cc)
known_array low high (table ms) = inr (λ h. let e = h.there in cc)

-- an entry is a table of its size, or not
pub known_entry : (version place : ℕ) (entry : Data) → Decided (IsTableEntry version place entry)
known_entry version place entry = elim (both (known_table (table_keys version) entry) (same_value (size_of (members_of entry)) (least_units + place))) [
  | inl h ↦ inl (record { known = h.0; sized = h.1 })
  | inr other ↦ inr (λ h. other (h.known, h.sized))
]

-- a value is as many items as it may be, or not
known_items : (value : Data) → Decided (AreItems value)
known_items value = elim (both (known_array 1 item_limit value) (each (IsTableOf item_keys) (known_table item_keys) (entries_of (Some value)))) [
  | inl h ↦ inl (record { few = h.0; known = h.1 })
  | inr other ↦ inr (λ h. other (h.few, h.known))
]

-- the value at a key stands alone, and is right, or not
alone_by :
    (key other : List ℕ) (IsRight : Data → Type 0) → ((value : Data) → Decided (IsRight value))
    → (fault : Members) (o : Option Data) → get_member key fault ≡ o → Decided (StandsAlone key other IsRight fault)
alone_by key other IsRight known fault None is = inr (λ h. let there = sym is ∙ h.there in cc)
alone_by key other IsRight known fault (Some value) is = elim (both (known value) (nothing (get_member other fault))) [
  | inl h ↦ inl (record { value = value; there = is; right = h.0; alone = h.1 })
  | inr wrong ↦ inr (λ h. let there : Some value ≡ Some h.value = sym is ∙ h.there in
      let one : h.value ≡ value = cc there in wrong (subst IsRight one h.right, h.alone))
]

-- it fails in one way, or not
pub known_way : (fault : Members) → Decided (HasOneWay fault)
known_way fault = either
    (alone_by (codes "say") (codes "storm") AreItems known_items fault (get_member (codes "say") fault) refl)
    (alone_by (codes "storm") (codes "say") (IsTableOf storm_keys) (known_table storm_keys) fault (get_member (codes "storm") fault) refl)
