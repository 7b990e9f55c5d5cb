-- What is known of a task: whether it has a name that is new, and whether it has a form.
use Rattle.std.proofs.Common.{◌≡◌, inl, inr, ℕ, List, [], ◌∷◌, length, Option, Some, None, refl, sym, subst, ◌∙◌, arith}
use Rattle.std.specs.Prelude.{codes, option_and_then}
use Rattle.toml.specs.Data.{Data, Members, as_str, get_member}
use Rattle.std.specs.Str.{byte}
use Rattle.sift_base.specs.Name.{HasNameForm, IsName, IsNameByte, keywords}
use Rattle.sift_document.specs.Document.{read_at, word_array, word_value}
use Rattle.sift_document.specs.laws.ReadEntries.{array_between-long}
use Rattle.sift_sections.specs.laws.Decided.{Decided, among, at_most, both, each, either, negated, nothing, same_number, same_option, same_text}
use Rattle.sift_scenario.specs.Task.{Form, HasForm, IsNewName, linear, name_of, task_outputs, text}

-- ---- names

-- a byte may follow in a name, or not
name_byte : (b : ℕ) → Decided (IsNameByte b)
name_byte b =
    either (both (at_most 97 b) (at_most b 122)) (either (both (at_most 48 b) (at_most b 57)) (same_number b (byte "_")))

-- a text has the form of a name, or not
name_form : (bytes : List ℕ) → Decided (HasNameForm bytes)
name_form [] = inr (λ none. none)
name_form (first ∷ rest) = both (both (at_most 97 first) (at_most first 122)) (each IsNameByte name_byte rest)

-- a text is a name, or not
name_known : (bytes : List ℕ) → Decided (IsName bytes)
name_known bytes = elim (both (name_form bytes) (both (at_most (length bytes) 16) (negated (among same_text keywords bytes)))) [
  | inl h ↦ inl (record { formed = h.0; short = h.1.0; free = h.1.1 })
  | inr other ↦ inr (λ h. other (h.formed, (h.short, h.free)))
]

-- a task has a name that no earlier entry has, or not
pub new_name_of :
    (earlier : List (Option (List ℕ))) (task : Members) (o : Option (List ℕ)) → name_of task ≡ o
    → Decided ((name : List ℕ) × IsNewName earlier task name)
new_name_of earlier task None is = inr (λ h. let there = sym is ∙ h.1.stated in cc)
new_name_of earlier task (Some name) is =
    elim (both (name_known name) (negated (among same_option earlier (Some name)))) [
      | inl h ↦ inl (name, record { stated = is; form = h.0; new = h.1 })
      | inr other ↦ inr (λ h. let there : Some name ≡ Some h.0 = sym is ∙ h.1.stated in
          let one : h.0 ≡ name = cc there in
          let mine = subst (IsNewName earlier task) one h.1 in other (mine.form, mine.new))
    ]

-- ---- forms

-- a task has a text alone, or not
text_alone :
    (task : Members) (o : Option (List ℕ)) → read_at as_str (codes "text") task ≡ o → Decided ((bytes : List ℕ) × HasForm task (text bytes))
text_alone task None is = inr (λ h. let there = sym is ∙ h.1.0 in cc)
text_alone task (Some bytes) is = elim (nothing (get_member (codes "linear") task)) [
  | inl alone ↦ inl (bytes, (is, alone))
  | inr other ↦ inr (λ h. other h.1.1)
]

-- an array of two words has two
two_words : (d : Option Data) (ws : List ℕ) → option_and_then (word_array 2 2) d ≡ Some ws → length ws ≡ 2
two_words None ws is = cc
two_words (Some d) ws is = let long = array_between-long 2 2 word_value d ws is in omega (arith, long.0, long.1)

-- a task has a linear rule alone and one word, or not
linear_alone :
    (task : Members) (o : Option (List ℕ)) → read_at (word_array 2 2) (codes "linear") task ≡ o
    → Decided ((factor : ℕ) × (addend : ℕ) × HasForm task (linear factor addend))
linear_alone task None is = inr (λ h. let there = sym is ∙ h.2.0 in cc)
linear_alone task (Some []) is = absurd (let long = two_words (get_member (codes "linear") task) [] is in omega (arith, long))
linear_alone task (Some (f ∷ [])) is =
    absurd (let long = two_words (get_member (codes "linear") task) (f ∷ []) is in omega (arith, long))
linear_alone task (Some (f ∷ (a ∷ (x ∷ xs)))) is =
    absurd (let long = two_words (get_member (codes "linear") task) (f ∷ a ∷ x ∷ xs) is in omega (arith, long))
linear_alone task (Some (f ∷ (a ∷ []))) is =
    elim (both (same_number (task_outputs task) 1) (nothing (get_member (codes "text") task))) [
      | inl h ↦ inl (f, a, (is, h.0, h.1))
      | inr other ↦ inr (λ h. other (h.2.1, h.2.2))
    ]

-- a task without either has no form
formless :
    (task : Members) (form : Form) → (((bytes : List ℕ) × HasForm task (text bytes)) → ⊥)
    → (((factor : ℕ) × (addend : ℕ) × HasForm task (linear factor addend)) → ⊥) → HasForm task form → ⊥
formless task (linear factor addend) no_text no_rule has = no_rule (factor, addend, has)
formless task (text bytes) no_text no_rule has = no_text (bytes, has)

-- a task has a form, or none
pub form_known : (task : Members) → Decided ((form : Form) × HasForm task form)
form_known task = elim (text_alone task (read_at as_str (codes "text") task) refl) [
  | inl has ↦ inl (text has.0, has.1)
  | inr no_text ↦ elim (linear_alone task (read_at (word_array 2 2) (codes "linear") task) refl) [
    | inl has ↦ inl (linear has.0 has.1, has.2)
    | inr no_rule ↦ inr (λ h. formless task h.0 no_text no_rule h.1)
  ]
]
