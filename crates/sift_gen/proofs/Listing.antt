-- Lists of what stands at each number, with one more.
use Rattle.std.proofs.Common.{◌≡◌, ◌≢◌, ℕ, ◌+◌, Bool, true, false, not, nat_eq, cond, List, [], ◌∷◌, ◌++◌, map, refl, ap, ◌∙◌, arith}
use Rattle.std.proofs.lemmas.Bool.Decides.{nat_tests}
use Rattle.std.specs.Fmt.{decimal}
use Rattle.std.specs.List.{filter, flat_map, range_with_len}
use Rattle.std.proofs.lemmas.List.FromFn.{map-range_with_len_more}
use Rattle.std.proofs.lemmas.List.Elements.{filter-append}
use Rattle.std.proofs.lemmas.Grind.{flat_map-append}
use Rattle.std.proofs.lemmas.List.{append-nil}
use Rattle.sift_base.specs.laws.Ranges.{range-next}
use Rattle.sift_gen.specs.Scenario.{other_digits}

-- what a function makes of the numbers below another, with one more
pub map-more : {X : Type 0} (f : ℕ → X) (n : ℕ) → map f (range_with_len 0 (n + 1)) ≡ map f (range_with_len 0 n) ++ f n ∷ []
map-more f n = map-range_with_len_more f 0 n n (omega arith)

map-id : (xs : List ℕ) → map (λ x. x) xs ≡ xs
map-id [] = refl
map-id (x ∷ xs) = ap (λ ys. x ∷ ys) (map-id xs)

-- the digits of one number alone, where it passes a test
digit_of : (p : ℕ → Bool) (n : ℕ) → flat_map decimal (filter p (n ∷ [])) ≡ cond (p n) (decimal n) []
digit_of p n =
    elim (p n) as (λ b. flat_map decimal (cond b (n ∷ []) []) ≡ cond b (decimal n) []) [ true ↦ append-nil (decimal n) | false ↦ refl ]

-- the digits of all units but one, with one unit more
digits-more : (n unit : ℕ) → other_digits (n + 1) unit ≡ other_digits n unit ++ cond (not (nat_eq n unit)) (decimal n) []
digits-more n unit =
    let p : ℕ → Bool = λ u. not (nat_eq u unit) in
    ap (λ xs. flat_map decimal (filter p xs)) (range-next n)
    ∙ (ap (flat_map decimal) (filter-append p (range_with_len 0 n) (n ∷ []))
    ∙ (flat_map-append decimal (filter p (range_with_len 0 n)) (filter p (n ∷ []))
    ∙ ap (λ xs. flat_map decimal (filter p (range_with_len 0 n)) ++ xs) (digit_of p n)))

-- a unit that is the one adds nothing, and another its digit
pub digits-kept : (n unit : ℕ) → n ≡ unit → other_digits (n + 1) unit ≡ other_digits n unit
digits-kept n unit same =
    let yes : nat_eq n unit ≡ true = grind (arith, nat_tests, same) in
    digits-more n unit ∙ (ap (λ b. other_digits n unit ++ cond (not b) (decimal n) []) yes ∙ append-nil (other_digits n unit))

-- one unit more, which isn't the one left out, adds its digits at the end
pub digits-added : (n unit : ℕ) → n ≢ unit → other_digits (n + 1) unit ≡ other_digits n unit ++ decimal n
digits-added n unit other =
    let no : nat_eq n unit ≡ false = grind (arith, nat_tests, other) in
    digits-more n unit ∙ ap (λ b. other_digits n unit ++ cond (not b) (decimal n) []) no
