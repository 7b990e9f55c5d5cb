-- The bound, found from the front with products that stop at a limit.
use Rattle.std.proofs.Common.{◌≡◌, ℕ, zero, suc, ◌+◌, ◌-◌, ◌*◌, ◌<◌, ◌≤◌, List, [], ◌∷◌, ◌++◌, length, drop, Option, Some, refl, sym, ap, ◌∙◌, arith, add-one, inl, inr, min}
use Rattle.std.specs.Prelude.{slice_get, ◌⊎◌, take, unwrap_or}
use Rattle.std.proofs.Math.ListN.{drop_of_length-le}
use Rattle.std.proofs.lemmas.Bool.{cases_lt}
use Rattle.std.proofs.Math.Nat.{le-mul_of_pos_right}
use Rattle.std.proofs.lemmas.List.{length-append}
use Rattle.std.proofs.lemmas.Option.{slice_get_within}
use Rattle.std.proofs.Math.Seq.{take-append_seam}
use Rattle.sift_code.specs.declared.instr.Instr.{Instr}
use Rattle.sift_code.specs.declared.instr.Instr.TheVariants.{Begin, End}
use Rattle.sift_code.specs.Enclosing.{enclosing}
use Rattle.sift_code.specs.Bound.{product, sum_within, bound_of, kept, kept_limit}
use Rattle.sift_code.specs.Kept.{rounds_behind, rounds_at, bound_before, products_outside}
use Rattle.sift_code.specs.Refusal.{Program, IsSound}
use Rattle.sift_code.specs.laws.Enclosing.{IsNoBrace}
use Rattle.sift_code.proofs.Costs.{IsBraced, drop_here, nested, nested_here}
use Rattle.sift_code.proofs.Sound.{at_place, braced, uncrowded}

-- ---- arithmetic that stops at the limit

pub kept-add : (a b : ℕ) → min (kept a + kept b) kept_limit ≡ kept (a + b)
kept-add a b = grind arith

pub kept-mul : (p k : ℕ) → min (kept p * k) kept_limit ≡ kept (k * p)
kept-mul p k = by (cases_lt kept_limit p)
  where
    many : (k : ℕ) → kept_limit < p → min (kept p * k) kept_limit ≡ kept (k * p)
    many zero lt = grind arith
    many (suc m) lt =
        let a : kept p ≤ kept p * suc m = le-mul_of_pos_right (kept p) (omega arith) in
        let b : p ≤ p * suc m = le-mul_of_pos_right p (omega arith) in
        let c : suc m * p ≡ p * suc m = grind arith in
        let d : kept p ≡ kept_limit = grind arith in
        let e : min (kept p * suc m) kept_limit ≡ kept_limit = grind arith in
        let f : kept (suc m * p) ≡ kept_limit = grind arith in
        e ∙ sym f

    by : (kept_limit < p) ⊎ (p ≤ kept_limit) → min (kept p * k) kept_limit ≡ kept (k * p)
    by (inr le) =
        let same : kept p ≡ p = grind arith in
        ap (λ n. min (n * k) kept_limit) same ∙ ap (λ n. min n kept_limit) (grind arith)
    by (inl lt) = many k lt

-- ---- the sum so far

rounds_here : (code : List Instr) (p : ℕ) (i : Instr) → slice_get code p ≡ Some i → rounds_at code (p + 1) ≡ rounds_behind (Some i) (rounds_at code p)
rounds_here code p i at = rw add-one (ap (λ o. rounds_behind o (rounds_at code p)) at)

sum_step : (i : Instr) (rounds : List ℕ) (rest : List Instr) → sum_within rounds (i ∷ rest) ≡ product rounds + sum_within (rounds_behind (Some i) rounds) rest
sum_step (Begin k) rounds rest = refl
sum_step End rounds rest = refl
sum_step _ rounds rest = refl

bound_split : (code : List Instr) (p : ℕ) → p ≤ length code → bound_before code p + sum_within (rounds_at code p) (drop p code) ≡ bound_of code
bound_split code zero le = omega arith
bound_split code (suc p) le =
    let at = at_place code p (omega arith) in
    let next : p + 1 ≡ suc p = omega arith in
    let d : drop p code ≡ at.0 ∷ drop (suc p) code = drop_here code p at.0 at.1 ∙ ap (λ q. at.0 ∷ drop q code) next in
    let r : rounds_at code (suc p) ≡ rounds_behind (Some at.0) (rounds_at code p) = ap (λ o. rounds_behind o (rounds_at code p)) at.1 in
    let e : sum_within (rounds_at code p) (drop p code) ≡ product (rounds_at code p) + sum_within (rounds_at code (suc p)) (drop (suc p) code) =
    ap (sum_within (rounds_at code p)) d ∙ (sum_step at.0 (rounds_at code p) (drop (suc p) code) ∙ ap (λ rs. product (rounds_at code p) + sum_within rs (drop (suc p) code)) (sym r)) in
    omega (arith, bound_split code p (omega arith))

-- at the end the sum is whole
pub bound_whole : (code : List Instr) (p : ℕ) → p ≡ length code → bound_before code p ≡ bound_of code
bound_whole code p end =
    let none : drop p code ≡ [] = drop_of_length-le code (omega arith) in
    omega (arith, bound_split code p (omega arith), ap (sum_within (rounds_at code p)) none)

pub bound_more : (code : List Instr) (p : ℕ) → bound_before code (p + 1) ≡ bound_before code p + product (rounds_at code p)
bound_more code p = rw add-one refl

-- ---- as many rounds as loops

rounds_step : (i : Instr) (next : ℕ) (rounds loops : List ℕ) → length rounds ≡ length loops → length (rounds_behind (Some i) rounds) ≡ length (nested i next loops)
rounds_step (Begin k) next rounds loops e = omega arith
rounds_step End next [] [] e = refl
rounds_step End next [] (x ∷ loops) e = absurd (omega arith)
rounds_step End next (x ∷ rounds) [] e = absurd (omega arith)
rounds_step End next (x ∷ rounds) (y ∷ loops) e = omega arith
rounds_step _ next rounds loops e = e

pub rounds_long : (code : List Instr) → IsBraced code → (p : ℕ) → p ≤ length code → length (rounds_at code p) ≡ length (enclosing code p)
rounds_long code braced zero le = refl
rounds_long code braced (suc p) le =
    let at = at_place code p (omega arith) in
    let e : p + 1 ≡ suc p = omega arith in
    let step = rounds_step at.0 (p + 1) (rounds_at code p) (enclosing code p) (rounds_long code braced p (omega arith)) in
    ap (λ o. length (rounds_behind o (rounds_at code p))) at.1 ∙ (step ∙ (ap (length {A = ℕ}) (sym (nested_here code braced p at.0 at.1)) ∙ ap (λ q. length (enclosing code q)) e))

pub outside_long : (rounds : List ℕ) → length (products_outside rounds) ≡ length rounds
outside_long [] = refl
outside_long (k ∷ ks) = omega (arith, length-append (products_outside ks) (kept (product ks) ∷ []), outside_long ks)

-- ---- what the loop keeps

last_of : (xs : List ℕ) (y : ℕ) → slice_get (xs ++ y ∷ []) (length xs) ≡ Some y
last_of [] y = refl
last_of (x ∷ xs) y = last_of xs y

-- the sum with one more product
pub sum_more : (code : List Instr) (p bound prod : ℕ) → bound ≡ kept (bound_before code p) → prod ≡ kept (product (rounds_at code p))
    → min (bound + prod) kept_limit ≡ kept (bound_before code (p + 1))
sum_more code p bound prod b e = rw (b, e) (kept-add (bound_before code p) (product (rounds_at code p)) ∙ ap kept (sym (bound_more code p)))

-- the products behind a Begin
pub product_in : (code : List Instr) (p k prod : ℕ) → slice_get code p ≡ Some (Begin k) → prod ≡ kept (product (rounds_at code p))
    → min (prod * k) kept_limit ≡ kept (product (rounds_at code (p + 1)))
product_in code p k prod at e = rw e (kept-mul (product (rounds_at code p)) k ∙ ap (λ rs. kept (product rs)) (sym (rounds_here code p (Begin k) at)))

-- behind a Begin the products outside the open loops are those before it and, last, the product that was kept at the Begin
pub outside_in : (code : List Instr) (p k prod : ℕ) (outside : List ℕ) → slice_get code p ≡ Some (Begin k)
    → prod ≡ kept (product (rounds_at code p)) → outside ≡ products_outside (rounds_at code p)
    → outside ++ prod ∷ [] ≡ products_outside (rounds_at code (p + 1))
outside_in code p k prod outside at e o = rw (e, o) (ap products_outside (sym (rounds_here code p (Begin k) at)))

-- all but the last of the products are those of the loops around the innermost one
all_but_last : (k : ℕ) (ks outside : List ℕ) → outside ≡ products_outside (k ∷ ks) → length outside - 1 ≡ length (products_outside ks)
all_but_last k ks outside e =
    omega (arith, ap (length {A = ℕ}) e, length-append (products_outside ks) (kept (product ks) ∷ []))

-- the products behind an End
pub product_out : (rounds outside : List ℕ) (o : Option ℕ) → outside ≡ products_outside rounds
    → o ≡ slice_get outside (length outside - 1) → unwrap_or o 1 ≡ kept (product (drop 1 rounds))
product_out [] outside o e is = rw (is, e) refl
product_out (k ∷ ks) outside o e is =
    let last : slice_get outside (length outside - 1) ≡ Some (kept (product ks)) = ap (slice_get outside) (all_but_last k ks outside e)
    ∙ (ap (λ l. slice_get l (length (products_outside ks))) e ∙ last_of (products_outside ks) (kept (product ks))) in
    ap (λ v. unwrap_or v 1) (is ∙ last)

-- behind an End the products outside the open loops are those before it without the last
pub outside_out : (rounds outside left : List ℕ) → outside ≡ products_outside rounds → left ≡ take (length outside - 1) outside → left ≡ products_outside (drop 1 rounds)
outside_out [] outside left e is = rw (is, e) refl
outside_out (k ∷ ks) outside left e is =
    let long = all_but_last k ks outside e in
    is ∙ (ap (λ n. take n outside) long ∙ (ap (take (length (products_outside ks))) e ∙ take-append_seam (products_outside ks) (kept (product ks) ∷ [])))

-- behind an End the rounds of the open loops are those before it without the innermost loop's
pub rounds_end : (code : List Instr) (p : ℕ) → slice_get code p ≡ Some End → rounds_at code (p + 1) ≡ drop 1 (rounds_at code p)
rounds_end code p at = rounds_here code p End at

rounds_plain : (i : Instr) (rounds : List ℕ) → IsNoBrace i → rounds_behind (Some i) rounds ≡ rounds
rounds_plain (Begin k) rounds no_brace = absurd (no_brace.0 k refl)
rounds_plain End rounds no_brace = absurd (no_brace.1 refl)
rounds_plain _ rounds no_brace = refl

-- behind an instruction that is neither a Begin nor an End the rounds of the open loops are those before it
pub rounds_other : (code : List Instr) (p : ℕ) (i : Instr) → slice_get code p ≡ Some i → IsNoBrace i → rounds_at code (p + 1) ≡ rounds_at code p
rounds_other code p i at no_brace = rounds_here code p i at ∙ rounds_plain i (rounds_at code p) no_brace

-- the loop has room for one more product
pub outside_room : (program : Program) → IsSound program → (p k : ℕ) (outside : List ℕ) → slice_get program.code p ≡ Some (Begin k)
    → outside ≡ products_outside (rounds_at program.code p) → length outside < 32
outside_room program sound p k outside at e =
    let within : p < length program.code = slice_get_within program.code p (Begin k) at in
    omega (arith, ap (length {A = ℕ}) e, outside_long (rounds_at program.code p), rounds_long program.code (braced program sound) p (omega arith), uncrowded program sound p k at)
