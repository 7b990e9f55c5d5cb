-- A name is found at its place.
use Rattle.std.proofs.Common.{◌≡◌, ℕ, zero, suc, ◌+◌, Bool, true, false, List, [], ◌∷◌, slice_get, Some, refl, ap, ◌∙◌, arith}
use Rattle.std.specs.List.{position_from}
use Rattle.std.specs.Str.{bytes_eq}
use Rattle.std.proofs.lemmas.Slice.Eq.{bytes_eq-Decides}
use Rattle.sift_parse.specs.Outcome.{AreDistinct}
use Rattle.sift_parse.specs.Roll.{number_in}

-- different names are different without the first
distinct-tail : (x : List ℕ) (names : List (List ℕ)) → AreDistinct (x ∷ names) → AreDistinct names
distinct-tail x names h i j name a b = let e = h (suc i) (suc j) name a b in omega arith

-- a name is found at its place, counted from this number on
found_at : (names : List (List ℕ)) (name : List ℕ) (i start : ℕ) → AreDistinct names → slice_get names i ≡ Some name
    → position_from (λ n. bytes_eq n name) start names ≡ Some (start + i)
found_at [] name i start h e = cc
found_at (x ∷ names) name zero start h e =
    let same : x ≡ name = cc in
    let test : bytes_eq x name ≡ true = (bytes_eq-Decides x name).1 same in
    let sum : start + 0 ≡ start = omega arith in
    rw (test, sum) refl
found_at (x ∷ names) name (suc i) start h e = differs (bytes_eq x name) refl (found_at names name i (start + 1) (distinct-tail x names h) e)
  where
    differs : (b : Bool) → bytes_eq x name ≡ b → position_from (λ n. bytes_eq n name) (start + 1) names ≡ Some ((start + 1) + i)
        → position_from (λ n. bytes_eq n name) start (x ∷ names) ≡ Some (start + suc i)
    differs true t later = absurd (let same = (bytes_eq-Decides x name).0 t in let z = h 0 (suc i) name (ap Some same) e in omega arith)
    differs false t later =
        let sum : start + suc i ≡ (start + 1) + i = omega arith in
        rw (t, sum) later

-- a name is found at its place in a list of different ones
pub name_found : (names : List (List ℕ)) (name : List ℕ) (i : ℕ) → AreDistinct names → slice_get names i ≡ Some name
    → number_in names name ≡ Some i
name_found names name i h e =
    let sum : 0 + i ≡ i = omega arith in
    found_at names name i 0 h e ∙ ap Some sum
