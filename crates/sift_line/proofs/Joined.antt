-- Joined texts come apart again, where none has the byte between them.
use Rattle.std.proofs.Common.{◌≡◌, ◌≢◌, ℕ, ◌<◌, true, false, List, [], ◌∷◌, length, get_or, map, codes, eqb, refl, sym, ap, ◌∙◌, arith}
use Rattle.std.specs.List.{All, join_with_byte, slice_split}
use Rattle.std.proofs.lemmas.Bool.Decides.{nat_tests}
use Rattle.std.proofs.lemmas.List.Elements.{All-nil, All-cons}
use Rattle.std.proofs.lemmas.List.Splits.{slice_split_none, slice_split_at, join_with_byte-slice_split, length-slice_split}
use Rattle.sift_line.specs.Part.{IsAbove, AreAbove, list_text}
use Rattle.sift_line.proofs.Above.{all-lower, above-map}

other : (c b : ℕ) → c < b → eqb b c ≡ false
other c b low = grind (arith, nat_tests)

-- a byte passes the test of being that byte
pub itself : (c : ℕ) → eqb c c ≡ true
itself c = grind (arith, nat_tests)

-- a text above a byte doesn't have it
pub without : (c : ℕ) (text : List ℕ) → IsAbove c text → All (λ b. eqb b c ≡ false) text
without c [] h = All-nil (λ b. eqb b c ≡ false)
without c (b ∷ bs) h = All-cons (λ x. eqb x c ≡ false) b bs (other c b h.0) (without c bs h.1)

-- so texts above it that it joins are what it cuts
pub split-join : (c : ℕ) (x : List ℕ) (xs : List (List ℕ)) → AreAbove c (x ∷ xs) → slice_split (λ b. eqb b c) (join_with_byte c (x ∷ xs)) ≡ x ∷ xs
split-join c x [] above = slice_split_none (λ b. eqb b c) x (without c x above.0)
split-join c x (y ∷ ys) above =
    slice_split_at (λ b. eqb b c) x c (join_with_byte c (y ∷ ys)) (without c x above.0) (itself c)
    ∙ ap (λ rest. x ∷ rest) (split-join c y ys above.1)

-- ---- lists

-- the parts of a list are those that commas cut out of its text
parts_cut : (parts : List (List ℕ)) (bs : List ℕ) → AreAbove 45 parts → list_text parts ≡ bs → bs ≢ codes "-" → parts ≡ slice_split (λ b. eqb b 44) bs
parts_cut [] bs above e apart = absurd (apart (sym e))
parts_cut (x ∷ xs) bs above e apart =
    sym (split-join 44 x xs (all-lower 44 45 (x ∷ xs) (omega arith) above)) ∙ ap (slice_split (λ b. eqb b 44)) e

-- and what commas cut out of a text is a list of that text
cut_parts : (parts : List (List ℕ)) (bs : List ℕ) → parts ≡ slice_split (λ b. eqb b 44) bs → list_text parts ≡ bs
cut_parts [] bs e = absurd (omega (arith, ap length e, length-slice_split (λ b. eqb b 44) bs))
cut_parts (x ∷ xs) bs e = ap (join_with_byte 44) e ∙ join_with_byte-slice_split 44 bs

-- only the list without parts is a dash
no_parts : (parts : List (List ℕ)) → AreAbove 45 parts → list_text parts ≡ codes "-" → parts ≡ []
no_parts [] above e = refl
no_parts ([] ∷ []) above e = cc
no_parts ([] ∷ y ∷ ys) above e = absurd (omega (arith, ap (λ bs. get_or bs 0 0) e))
no_parts ((b ∷ bs) ∷ []) above e = let same : b ≡ 45 = (cc) in absurd (omega (arith, above.0.0))
no_parts ((b ∷ bs) ∷ y ∷ ys) above e = let same : b ≡ 45 = (cc) in absurd (omega (arith, above.0.0))

-- the same of the texts of values
module _ {V : Type 0} (text : V → List ℕ) (apart : (v : V) → IsAbove 45 (text v)) where
  -- values' texts are what commas cut out of the text of their list, where this isn't a dash
  pub values_cut : (vs : List V) (bs : List ℕ) → list_text (map text vs) ≡ bs → bs ≢ codes "-" → map text vs ≡ slice_split (λ b. eqb b 44) bs
  values_cut vs bs e more = parts_cut (map text vs) bs (above-map 45 text vs apart) e more

  -- a text is that of the list of values whose texts commas cut out of it
  pub cut_values : (vs : List V) (bs : List ℕ) → map text vs ≡ slice_split (λ b. eqb b 44) bs → list_text (map text vs) ≡ bs
  cut_values vs bs e = cut_parts (map text vs) bs e

  -- a list of values whose text is a dash is empty
  pub no_values : (vs : List V) (bs : List ℕ) → list_text (map text vs) ≡ bs → bs ≡ codes "-" → vs ≡ []
  no_values [] bs e none = refl
  no_values (v ∷ vs) bs e none = let empty = no_parts (map text (v ∷ vs)) (above-map 45 text (v ∷ vs) apart) (e ∙ none) in (cc)
