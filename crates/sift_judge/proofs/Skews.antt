-- Numbers of 64 bits compared by their difference, in 128 bits.
use Rattle.std.proofs.Common.{◌≡◌, ◌-ℤ◌, ◌≤ℤ◌, ℤ, pos, List, [], ◌∷◌, ap, eq-eqb, eqb-true, false, nat_eq, of_z, sym, to_z, true, w64, ◌∙◌, arith}
use Rattle.std.specs.Prelude.{◌↔◌}
use Rattle.std.proofs.lemmas.Int.{ints, to_z-of_z}
use Rattle.sift_skew.specs.Figures.{IsSkew}
use lib.Signed.{le_z}
use mir.Syntax.{w32, w128}
use mir.Val.{SFits}

-- the difference of two is another, just where their bits are the same
same_difference : (a b c : ℤ) → SFits w64 a → SFits w64 b → SFits w64 c → (nat_eq (of_z w128 (a -ℤ b)) (of_z w128 c) ≡ true) ↔ (c ≡ a -ℤ b)
same_difference a b c fits_a fits_b fits_c =
    let here : to_z w128 (of_z w128 (a -ℤ b)) ≡ a -ℤ b = omega (arith, ints, fits_a, fits_b) in
    let there : to_z w128 (of_z w128 c) ≡ c = omega (arith, ints, fits_c) in (
      (λ t. sym there ∙ sym (ap (to_z w128) (eqb-true (of_z w128 (a -ℤ b)) (of_z w128 c) t)) ∙ here),
      (λ e. eq-eqb (of_z w128 (a -ℤ b)) (of_z w128 c) (ap (of_z w128) (sym e))),
    )

-- their difference fits
pub difference_fits : (a b : ℤ) → SFits w128 (to_z w128 (of_z w128 (to_z w64 (of_z w64 a))) -ℤ to_z w128 (of_z w128 (to_z w64 (of_z w64 b))))
difference_fits a b = omega (arith, ints)

-- no offsets have no skew
pub no_skew : (offsets : List ℤ) (skew : ℤ) → offsets ≡ [] → (false ≡ true) ↔ IsSkew offsets skew
no_skew [] skew none = ((λ t. absurd cc), (λ is. let inside = is.attained.2.1 in absurd (omega (arith, inside))))
no_skew (a ∷ rest) skew none = absurd cc

-- a slack is at least 1 just where its bits say so
pub slack_decides : (s : ℤ) → SFits w64 s → (le_z (pos 1) (to_z w64 (of_z w64 s)) ≡ true) ↔ (pos 1 ≤ℤ s)
slack_decides s fits = let held = to_z-of_z w64 s fits in rw held ((λ t. grind (arith, ints, t)), (λ low. grind (arith, ints, low)))

-- a skew that these offsets have is at most the mission's just where its bits say so
pub skew_decides : (offsets : List ℤ) (s limit from : ℤ) → SFits w64 s → SFits w32 limit → from ≡ to_z w32 (of_z w32 limit)
    → IsSkew offsets (to_z w64 (of_z w64 s))
    → (le_z (to_z w64 (of_z w64 s)) (to_z w64 (of_z w64 from)) ≡ true) ↔ (IsSkew offsets s × (s ≤ℤ limit))
skew_decides offsets s limit from fits fits_limit is skew =
    let held = to_z-of_z w64 s fits in
    let told : to_z w64 (of_z w64 from) ≡ limit = omega (arith, ints, is, fits_limit) in
    rw told (rw held ((λ t. (rw held at skew, grind (arith, ints, t))), (λ both. grind (arith, ints, both.1))))

-- the highest offset without the lowest, each held in 64 bits, is a number just where its bits in 128 say so
pub difference_decides : (a b s p q r : ℤ) → SFits w64 a → SFits w64 b → SFits w64 s
    → p ≡ to_z w64 (of_z w64 a) → q ≡ to_z w64 (of_z w64 b) → r ≡ to_z w64 (of_z w64 s)
    → (nat_eq (of_z w128 (to_z w128 (of_z w128 p) -ℤ to_z w128 (of_z w128 q))) (of_z w128 r) ≡ true) ↔ (s ≡ a -ℤ b)
difference_decides a b s p q r fits_a fits_b fits_s is_a is_b is_s =
    let difference : to_z w128 (of_z w128 p) -ℤ to_z w128 (of_z w128 q) ≡ a -ℤ b = omega (arith, ints, fits_a, fits_b, is_a, is_b) in
    let told : r ≡ s = omega (arith, ints, fits_s, is_s) in
    rw (difference, told) (same_difference a b s fits_a fits_b fits_s)
