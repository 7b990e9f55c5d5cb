-- A list, read part by part.
use Rattle.std.proofs.Common.{◌≡◌, ℕ, ◌+◌, ◌<◌, List, [], ◌∷◌, ◌++◌, length, map, take, get_or, refl, sym, ap, ◌∙◌, arith}
use Rattle.std.specs.List.{All}
use Rattle.std.proofs.lemmas.List.{take_more, map-append, get_or-map, length-map, length-take-le, take_all}
use Rattle.std.proofs.lemmas.List.Elements.{All-get_or, All-nil, All-push}

module _ {V X : Type 0} (text : V → X) (Holds : V → Type 0) where
  -- what was read of the first k parts: values, whose texts are they, and each list of these texts begins with it
  pub record IsRead (parts : List X) (k : ℕ) (items : List V) : Type 0 where
    pub all : All Holds items
    pub printed : map text items ≡ take k parts
    pub exact : (vs : List V) → All Holds vs → map text vs ≡ parts → items ≡ take k vs

  -- at first nothing was read
  pub none_read : (parts : List X) → IsRead parts 0 []
  none_read parts = record { all = All-nil Holds; printed = refl; exact = λ vs all e. refl }

  as_many : (parts : List X) (vs : List V) → map text vs ≡ parts → length parts ≡ length vs
  as_many parts vs e = sym (ap length e) ∙ length-map vs text

  value_at : (parts : List X) (k : ℕ) (part : X) (vs : List V) (d : V) → k < length vs → part ≡ get_or parts k part
      → map text vs ≡ parts → text (get_or vs k d) ≡ part
  value_at parts k part vs d there is e = sym (get_or-map text vs k d part there) ∙ ap (λ xs. get_or xs k part) e ∙ sym is

  -- one part more
  pub more_read : (parts : List X) (k : ℕ) (items : List V) (v : V) (part : X) → IsRead parts k items → k < length parts → part ≡ get_or parts k part
      → Holds v → text v ≡ part → ((w : V) → Holds w → text w ≡ part → v ≡ w) → IsRead parts (k + 1) (items ++ v ∷ [])
  more_read parts k items v part so_far there is holds printed exact = record {
    all = All-push Holds items v so_far.all holds;
    printed =
        map-append text items (v ∷ []) ∙ ap (λ xs. xs ++ text v ∷ []) so_far.printed
        ∙ ap (λ x. take k parts ++ x ∷ []) (printed ∙ is) ∙ sym (take_more parts k part there);
    exact = λ vs all e.
        let within : k < length vs = omega (arith, as_many parts vs e) in
        ap (λ xs. xs ++ v ∷ []) (so_far.exact vs all e)
        ∙ ap (λ x. take k vs ++ x ∷ []) (exact (get_or vs k v) (All-get_or Holds vs k v within all) (value_at parts k part vs v within is e))
        ∙ sym (take_more vs k v within);
  }

  -- a part that no value has stands in the texts of no list
  pub none_has : (parts : List X) (k : ℕ) (part : X) → k < length parts → part ≡ get_or parts k part → ((w : V) → Holds w → text w ≡ part → ⊥)
      → (vs : List V) → All Holds vs → map text vs ≡ parts → ⊥
  none_has parts k part there is none [] all e = absurd (omega (arith, as_many parts [] e))
  none_has parts k part there is none (d ∷ ds) all e =
      let within : k < length (d ∷ ds) = omega (arith, as_many parts (d ∷ ds) e) in
      none (get_or (d ∷ ds) k d) (All-get_or Holds (d ∷ ds) k d within all) (value_at parts k part (d ∷ ds) d within is e)

  -- where a part is left, a list of these texts is longer than what was read
  pub longer : (parts : List X) (k : ℕ) (items : List V) → IsRead parts k items → k < length parts → (vs : List V) → map text vs ≡ parts
      → length items < length vs
  longer parts k items so_far there vs e =
      omega (arith, as_many parts vs e, length-map items text, ap length so_far.printed, length-take-le k parts (omega arith))

  -- where none is left, it is the whole list
  pub whole_printed : (parts : List X) (k : ℕ) (items : List V) → IsRead parts k items → k ≡ length parts → map text items ≡ parts
  whole_printed parts k items so_far seen = so_far.printed ∙ take_all k parts (omega arith)

  -- where no part is left, a list of values with these texts is the one that was read
  pub whole_exact : (parts : List X) (k : ℕ) (items : List V) → IsRead parts k items → k ≡ length parts
      → (vs : List V) → All Holds vs → map text vs ≡ parts → items ≡ vs
  whole_exact parts k items so_far seen vs all e = so_far.exact vs all e ∙ take_all k vs (omega (arith, as_many parts vs e))
