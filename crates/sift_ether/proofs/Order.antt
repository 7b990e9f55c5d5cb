-- A story has one order.
use Rattle.std.proofs.Common.{◌≡◌, ◌≢◌, ℕ, suc, ◌<◌, List, [], ◌∷◌, length, refl, sym, ap, ◌∙◌, subst, arith, eq-eqb, ne_eqb}
use mathlib.Core.Logic.{dite}
use native.Mathlib.Decide.{ℕ_discrete}
use Rattle.sift_ether.specs.declared.rule.Deed.{Deed}
use Rattle.sift_ether.specs.Stories.{Doing, deeds_of, places_of, part_of}

-- the first, and the others
abbrev first_or : {A : Type 0} → A → List A → A
first_or d [] = d
first_or d (x ∷ xs) = x

abbrev others : {A : Type 0} → List A → List A
others [] = []
others (x ∷ xs) = xs

-- the first place, if there is one, is below n
abbrev IsBelow : ℕ → List ℕ → Type 0
IsBelow n [] = Unit {0}
IsBelow n (p ∷ ps) = p < n

-- there is no place
abbrev IsNone : List ℕ → Type 0
IsNone [] = Unit {0}
IsNone (p ∷ ps) = ⊥

still_below : (n : ℕ) (ps : List ℕ) → IsBelow n ps → IsBelow (suc n) ps
still_below n [] low = tt
still_below n (p ∷ ps) low = omega arith

-- the unit of the newest deed has it first
own_places : (x : Doing) (xs : List Doing) (u : ℕ) → u ≡ x.unit → places_of (x ∷ xs) u ≡ length xs ∷ places_of xs u
own_places x xs u e = rw (eq-eqb u x.unit e) refl

own_deeds : (x : Doing) (xs : List Doing) (u : ℕ) → u ≡ x.unit → deeds_of (x ∷ xs) u ≡ x.deed ∷ deeds_of xs u
own_deeds x xs u e = rw (eq-eqb u x.unit e) refl

-- another unit hasn't got it
else_part : (x : Doing) (xs : List Doing) (u : ℕ) → u ≢ x.unit → part_of (x ∷ xs) u ≡ part_of xs u
else_part x xs u ne = rw (ne_eqb u x.unit ne) refl

-- a unit's newest place is below the length of the story
places_low : (xs : List Doing) (u : ℕ) → IsBelow (length xs) (places_of xs u)
places_low [] u = tt
places_low (x ∷ xs) u = let low = places_low xs u in dite (ℕ_discrete u x.unit)
    (λ e. subst (IsBelow (suc (length xs))) (sym (own_places x xs u e)) (let near : length xs < suc (length xs) = omega arith in near))
    (λ ne. rw (ne_eqb u x.unit ne) (still_below (length xs) (places_of xs u) low))

-- the newest deed is in some part
not_empty : (x : Doing) (xs : List Doing) (ps : List ℕ) → IsNone ps → ps ≡ places_of (x ∷ xs) x.unit → ⊥
not_empty x xs ps none e = subst IsNone (e ∙ own_places x xs x.unit refl) none

-- where the newest deeds are of two units, that of the first story came before that of the second
before : (x y : Doing) (xs ys : List Doing) → part_of (x ∷ xs) x.unit ≡ part_of (y ∷ ys) x.unit → x.unit ≢ y.unit → length xs < length ys
before x y xs ys e ne = subst (IsBelow (length ys)) (sym (ap (λ c. c.places) (e ∙ else_part y ys x.unit ne)) ∙ own_places x xs x.unit refl) (places_low ys x.unit)

-- without their newest deeds of one unit, the stories have the same parts
same_rest : (x y : Doing) (xs ys : List Doing) → x.unit ≡ y.unit → ((u : ℕ) → part_of (x ∷ xs) u ≡ part_of (y ∷ ys) u) → (u : ℕ) → part_of xs u ≡ part_of ys u
same_rest x y xs ys own e u = dite (ℕ_discrete u x.unit)
    (λ is.
    let deeds : deeds_of xs u ≡ deeds_of ys u = ap others (sym (own_deeds x xs u is) ∙ (ap (λ c. c.deeds) (e u) ∙ own_deeds y ys u (is ∙ own))) in
    let places : places_of xs u ≡ places_of ys u = ap others (sym (own_places x xs u is) ∙ (ap (λ c. c.places) (e u) ∙ own_places y ys u (is ∙ own))) in
    (λ i. record { unit = u; deeds = deeds i; places = places i }))
    (λ ne. sym (else_part x xs u ne) ∙ (e u ∙ else_part y ys u (λ z. ne (z ∙ sym own))))

same_deed : (x y : Doing) (xs ys : List Doing) → x.unit ≡ y.unit → ((u : ℕ) → part_of (x ∷ xs) u ≡ part_of (y ∷ ys) u) → x.deed ≡ y.deed
same_deed x y xs ys own e = ap (first_or x.deed) (sym (own_deeds x xs x.unit refl) ∙ (ap (λ c. c.deeds) (e x.unit) ∙ own_deeds y ys x.unit own))

-- units that know their parts know the story
pub one_order : (xs ys : List Doing) → ((u : ℕ) → part_of xs u ≡ part_of ys u) → xs ≡ ys
one_order [] [] e = refl
one_order [] (y ∷ ys) e = absurd (not_empty y ys [] tt (ap (λ c. c.places) (e y.unit)))
one_order (x ∷ xs) [] e = absurd (not_empty x xs [] tt (ap (λ c. c.places) (sym (e x.unit))))
one_order (x ∷ xs) (y ∷ ys) e = dite (ℕ_discrete x.unit y.unit)
    (λ own. λ i. record { unit = own i; deed = same_deed x y xs ys own e i } ∷ one_order xs ys (same_rest x y xs ys own e) i)
    (λ ne. absurd (let first = before x y xs ys (e x.unit) ne in let second = before y x ys xs (sym (e y.unit)) (λ z. ne (sym z)) in omega arith))
