-- Ascending units, read digit by digit.
use Rattle.std.proofs.Common.{◌≡◌, ℕ, ◌+◌, ◌<◌, ◌≤◌, List, [], ◌∷◌, ◌++◌, length, map, take, drop, get_or, refl, sym, ap, subst, ◌∙◌, add-one}
use Rattle.std.proofs.Common.{arith, codes, append_assoc, length-append}
use Rattle.std.proofs.lemmas.List.{take_more, take_all, map-append, get_or-map, length-map, append-nil}
use Rattle.std.proofs.Math.Seq.{drop-cons}
use Rattle.sift_line.specs.Part.{AscendFrom, unit_digit, units_text}

-- what was read of the first k digits: units of these digits, with which each list of all digits begins; and those that follow aren't below `least`
pub record UnitsRead (digits : List ℕ) (k least : ℕ) (units : List ℕ) : Type 0 where
  pub printed : map unit_digit units ≡ take k digits
  pub ascend : (rest : List ℕ) → AscendFrom least rest → AscendFrom 0 (units ++ rest)
  pub exact : (vs : List ℕ) → AscendFrom 0 vs → map unit_digit vs ≡ digits → units ≡ take k vs
  pub follow : (vs : List ℕ) → AscendFrom 0 vs → map unit_digit vs ≡ digits → AscendFrom least (drop k vs)
  pub room : length units ≤ least

pub none_read : (digits : List ℕ) → UnitsRead digits 0 0 []
none_read digits = record { printed = refl; ascend = λ rest h. h; exact = λ vs h e. refl; follow = λ vs h e. h; room = omega arith }

as_many : (digits vs : List ℕ) → map unit_digit vs ≡ digits → length digits ≡ length vs
as_many digits vs e = sym (ap length e) ∙ length-map vs unit_digit

-- the unit at a place, and those behind it
unit_at : (digits : List ℕ) (k least : ℕ) (vs : List ℕ) → AscendFrom least (drop k vs) → k < length digits → map unit_digit vs ≡ digits
    → (unit_digit (get_or vs k 0) ≡ get_or digits k 0) × (least ≤ get_or vs k 0) × (get_or vs k 0 < 8) × AscendFrom (get_or vs k 0 + 1) (drop (k + 1) vs)
unit_at digits k least vs h there e =
    let within : k < length vs = omega (arith, as_many digits vs e) in
    let digit : unit_digit (get_or vs k 0) ≡ get_or digits k 0 = sym (get_or-map unit_digit vs k 0 0 within) ∙ ap (λ xs. get_or xs k 0) e in
    let split = subst (AscendFrom least) (drop-cons vs k 0 within) h in
    (digit, split.0, split.1, rw (add-one k) split.2)

-- one unit more
pub more_read : (digits : List ℕ) (k least : ℕ) (units : List ℕ) (unit : ℕ) → UnitsRead digits k least units
    → k < length digits → unit_digit unit ≡ get_or digits k 0 → least ≤ unit → unit < 8 → UnitsRead digits (k + 1) (unit + 1) (units ++ unit ∷ [])
more_read digits k least units unit so_far there digit low few = record {
  printed =
      map-append unit_digit units (unit ∷ []) ∙ ap (λ xs. xs ++ unit_digit unit ∷ []) so_far.printed
      ∙ ap (λ x. take k digits ++ x ∷ []) digit ∙ sym (take_more digits k 0 there);
  ascend = λ rest h. rw append_assoc (so_far.ascend (unit ∷ rest) (low, few, h));
  exact = λ vs h e.
      let here = unit_at digits k least vs (so_far.follow vs h e) there e in
      let same : unit ≡ get_or vs k 0 = omega (arith, here.0, digit) in
      ap (λ xs. xs ++ unit ∷ []) (so_far.exact vs h e) ∙ ap (λ x. take k vs ++ x ∷ []) same
      ∙ sym (take_more vs k 0 (omega (arith, as_many digits vs e)));
  follow = λ vs h e.
      let here = unit_at digits k least vs (so_far.follow vs h e) there e in
      let same : unit ≡ get_or vs k 0 = omega (arith, here.0, digit) in
      rw same here.3;
  room = omega (arith, length-append units (unit ∷ []), so_far.room);
}

-- a digit that no unit may have here stands among those of no ascending units
pub none_has : (digits : List ℕ) (k least : ℕ) (units : List ℕ) → UnitsRead digits k least units → k < length digits
    → ((u : ℕ) → unit_digit u ≡ get_or digits k 0 → least ≤ u → u < 8 → ⊥) → (vs : List ℕ) → AscendFrom 0 vs → map unit_digit vs ≡ digits → ⊥
none_has digits k least units so_far there none vs h e =
    let here = unit_at digits k least vs (so_far.follow vs h e) there e in
    none (get_or vs k 0) here.0 here.1 here.2

-- ---- where no digit is left

-- units that were read digit by digit ascend
pub whole_ascend : (digits : List ℕ) (k least : ℕ) (units : List ℕ) → UnitsRead digits k least units → AscendFrom 0 units
whole_ascend digits k least units so_far = subst (AscendFrom 0) (append-nil units) (so_far.ascend [] tt)

text_of_digits : (units bs : List ℕ) → map unit_digit units ≡ bs → 0 < length bs → units_text units ≡ bs
text_of_digits [] bs e some = absurd (omega (arith, ap length e))
text_of_digits (u ∷ us) bs e some = e

-- where all digits were read, and there is one, they are the text of the units
pub whole_printed : (digits : List ℕ) (k least : ℕ) (units : List ℕ) → UnitsRead digits k least units → length digits ≤ k → 0 < length digits
    → units_text units ≡ digits
whole_printed digits k least units so_far seen some = text_of_digits units digits (so_far.printed ∙ take_all k digits seen) some

-- the text of units is their digits, where it isn't `-`
pub digits_of_text : (vs bs : List ℕ) → units_text vs ≡ bs → (bs ≡ codes "-" → ⊥) → map unit_digit vs ≡ bs
digits_of_text [] bs e apart = absurd (apart (sym e))
digits_of_text (u ∷ us) bs e apart = e

-- where all digits were read, ascending units with these digits are the units that were read
pub whole_exact : (digits : List ℕ) (k least : ℕ) (units : List ℕ) → UnitsRead digits k least units → length digits ≤ k
    → (vs : List ℕ) → AscendFrom 0 vs → map unit_digit vs ≡ digits → units ≡ vs
whole_exact digits k least units so_far seen vs h e = so_far.exact vs h e ∙ take_all k vs (omega (arith, as_many digits vs e))

-- only no unit at all is a dash
pub no_units : (vs bs : List ℕ) → units_text vs ≡ bs → bs ≡ codes "-" → vs ≡ []
no_units [] bs e none = refl
no_units (u ∷ us) bs e none = let whole : map unit_digit (u ∷ us) ≡ codes "-" = e ∙ none in absurd (omega (arith, ap (λ xs. get_or xs 0 0) whole))
