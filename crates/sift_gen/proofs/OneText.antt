-- A tree without floats is printed in one way alone.
use Rattle.std.proofs.Common.{codes, ◌≡◌, ℕ, Bool, true, false, List, [], ◌∷◌, ◌++◌, ap, sym, ◌∙◌, inl, inr}
use Rattle.std.specs.Prelude.{⊤}
use Rattle.std.proofs.lemmas.Bool.{cases_Bool}
use Rattle.toml.specs.Data.{Data, string, integer, float, boolean, datetime, table, array, Items, item, no_items, Members, member, no_members}
use Rattle.toml.specs.Tables.{Definition, Expression, key_value, std_table, array_table}
use Rattle.toml.specs.Text.{IsDocumentText, IsItemsText, IsLineText, IsLinesText, IsMembersText, IsValueText, after_item, are_tables, before_item, before_member, breaks_lines, elements, expressions, header_of, is_section, needs_header, pairs, section, sections}

-- ---- no float is in it

abbrev mutual
  -- there is no float in a value, nor in what it holds
  pub HasNoFloat : Data → Type 0
  HasNoFloat (float x) = ⊥
  HasNoFloat (array ds) = NoItemHasFloat ds
  HasNoFloat (table ms) = NoMemberHasFloat ms
  HasNoFloat _ = ⊤

  -- there is no float in any item of an array
  pub NoItemHasFloat : Items → Type 0
  NoItemHasFloat no_items = ⊤
  NoItemHasFloat (item d ds) = HasNoFloat d × NoItemHasFloat ds

  -- there is no float in any member of a table
  pub NoMemberHasFloat : Members → Type 0
  NoMemberHasFloat no_members = ⊤
  NoMemberHasFloat (member k d ms) = HasNoFloat d × NoMemberHasFloat ms

-- ---- values

-- what is put together of the same parts is the same
same_join : (front before after other_before other_after : List ℕ) → before ≡ other_before → after ≡ other_after →
    front ++ (before ++ after) ≡ front ++ (other_before ++ other_after)
same_join front before after other_before other_after p q = ap (λ b. front ++ (b ++ after)) p ∙ ap (λ a. front ++ (other_before ++ a)) q

-- what begins with the same and ends with the same is the same
same_end : (front middle end other_end : List ℕ) → end ≡ other_end → front ++ (middle ++ end) ≡ front ++ (middle ++ other_end)
same_end front middle end other_end p = ap (λ e. front ++ (middle ++ e)) p

mutual
  one_value : (d : Data) (one other : List ℕ) → HasNoFloat d → IsValueText false d one → IsValueText false d other → one ≡ other
  one_value (string s) one other free a b = a ∙ sym b
  one_value (integer z) one other free a b = a.0 ∙ sym b.0
  one_value (float x) one other free a b = absurd free
  one_value (boolean t) one other free a b = a ∙ sym b
  one_value (datetime dt) one other free a b = a ∙ sym b
  one_value (array ds) one other free a b =
      a.1 ∙ (ap (λ rest. codes "[" ++ rest) (one_items (breaks_lines false ds) true ds a.0 b.0 free a.2 b.2) ∙ sym b.1)
  one_value (table ms) one other free a b =
      a.1 ∙ (ap (λ rest. codes "{" ++ rest) (one_members true ms a.0 b.0 free a.2 b.2) ∙ sym b.1)

  one_items : (lines is_first : Bool) (ds : Items) (one other : List ℕ) → NoItemHasFloat ds → IsItemsText false lines is_first ds one →
      IsItemsText false lines is_first ds other → one ≡ other
  one_items lines is_first no_items one other free a b = a ∙ sym b
  one_items lines is_first (item d ds) one other free a b =
      let value = one_value d a.0 b.0 free.0 a.3 b.3 in
      let rest = one_items lines false ds a.1 b.1 free.1 a.4 b.4 in
      a.2 ∙ (same_join (before_item lines is_first) a.0 (after_item lines ++ a.1) b.0 (after_item lines ++ b.1) value (ap (λ r. after_item lines ++ r) rest) ∙ sym b.2)

  one_members : (is_first : Bool) (ms : Members) (one other : List ℕ) → NoMemberHasFloat ms → IsMembersText false is_first ms one →
      IsMembersText false is_first ms other → one ≡ other
  one_members is_first no_members one other free a b = a ∙ sym b
  one_members is_first (member k d ms) one other free a b =
      let value = one_value d a.0 b.0 free.0 a.3 b.3 in
      let rest = one_members false ms a.1 b.1 free.1 a.4 b.4 in
      a.2 ∙ (same_end (before_member is_first) _ _ _ (same_join (codes " = ") a.0 a.1 b.0 b.1 value rest) ∙ sym b.2)

-- ---- lines

-- no value on the right of `=` has a float
abbrev DefinesNoFloat : Definition → Type 0
DefinesNoFloat (key_value d) = HasNoFloat d
DefinesNoFloat std_table = ⊤
DefinesNoFloat array_table = ⊤

abbrev DefineNoFloat : List Expression → Type 0
DefineNoFloat [] = ⊤
DefineNoFloat (e ∷ es) = DefinesNoFloat e.1 × DefineNoFloat es

one_line : (started : Bool) (e : Expression) (one other : List ℕ) → DefinesNoFloat e.1 →
    IsLineText false started e.0 e.1 one → IsLineText false started e.0 e.1 other → one ≡ other
one_line started (key, key_value d) one other free a b =
    a.1 ∙ (same_end _ (codes " = ") _ _ (ap (λ this. this ++ codes "\n") (one_value d a.0 b.0 free a.2 b.2)) ∙ sym b.1)
one_line started (key, std_table) one other free a b = a ∙ sym b
one_line started (key, array_table) one other free a b = a ∙ sym b

one_text : (started : Bool) (es : List Expression) (one other : List ℕ) → DefineNoFloat es → IsLinesText false started es one →
    IsLinesText false started es other → one ≡ other
one_text started [] one other free a b = a ∙ sym b
one_text started (e ∷ es) one other free a b =
    let line = one_line started e a.0 b.0 free.0 a.3 b.3 in
    let rest = one_text true es a.1 b.1 free.1 a.4 b.4 in
    a.2 ∙ (same_join [] a.0 a.1 b.0 b.1 line rest ∙ sym b.2)

-- ---- the lines of a tree

free_append : (es fs : List Expression) → DefineNoFloat es → DefineNoFloat fs → DefineNoFloat (es ++ fs)
free_append [] fs a b = b
free_append (e ∷ es) fs a b = (a.0, free_append es fs a.1 b)

free_pairs : (ms : Members) → NoMemberHasFloat ms → DefineNoFloat (pairs ms)
free_pairs no_members free = tt
free_pairs (member k d ms) free =
    elim (cases_Bool (is_section d)) [
      | inl inside ↦ rw inside (free_pairs ms free.1)
      | inr pair ↦ rw pair (free.0, free_pairs ms free.1)
    ]

free_header : (key : List (List ℕ) × List ℕ) (ms : Members) → DefineNoFloat (header_of key ms)
free_header key ms =
    elim (cases_Bool (needs_header ms)) [
      | inl needed ↦ rw needed (tt, tt)
      | inr none ↦ rw none tt
    ]

mutual
  free_sections : (path : List (List ℕ)) (ms : Members) → NoMemberHasFloat ms → DefineNoFloat (sections path ms)
  free_sections path no_members free = tt
  free_sections path (member k d ms) free = free_append _ _ (free_section path k d free.0) (free_sections path ms free.1)

  free_section : (path : List (List ℕ)) (k : List ℕ) (d : Data) → HasNoFloat d → DefineNoFloat (section (path, k) d)
  free_section path k (string x) free = tt
  free_section path k (integer x) free = tt
  free_section path k (float x) free = tt
  free_section path k (boolean x) free = tt
  free_section path k (datetime x) free = tt
  free_section path k (table ms) free =
      free_append _ _ (free_header (path, k) ms) (free_append _ _ (free_pairs ms free) (free_sections (path ++ k ∷ []) ms free))
  free_section path k (array ds) free =
      elim (cases_Bool (are_tables ds)) [
        | inl all ↦ rw all (free_elements path k ds free)
        | inr other ↦ rw other tt
      ]

  free_elements : (path : List (List ℕ)) (k : List ℕ) (ds : Items) → NoItemHasFloat ds → DefineNoFloat (elements (path, k) ds)
  free_elements path k no_items free = tt
  free_elements path k (item (string x) ds) free = free_elements path k ds free.1
  free_elements path k (item (integer x) ds) free = free_elements path k ds free.1
  free_elements path k (item (float x) ds) free = free_elements path k ds free.1
  free_elements path k (item (boolean x) ds) free = free_elements path k ds free.1
  free_elements path k (item (datetime x) ds) free = free_elements path k ds free.1
  free_elements path k (item (array x) ds) free = free_elements path k ds free.1
  free_elements path k (item (table ms) ds) free =
      (tt, free_append _ _ (free_append _ _ (free_pairs ms free.0) (free_sections (path ++ k ∷ []) ms free.0)) (free_elements path k ds free.1))

-- a document has one text
pub one_document : (ms : Members) (one other : List ℕ) → NoMemberHasFloat ms → IsDocumentText false ms one → IsDocumentText false ms other →
    one ≡ other
one_document ms one other free a b =
    one_text false (expressions ms) one other (free_append _ _ (free_pairs ms free) (free_sections [] ms free)) a b
