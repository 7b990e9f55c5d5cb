-- Numbers drawn one after the other.
use Rattle.std.proofs.Common.{◌≡◌, ◌≢◌, ℕ, nat_eq, true, pos, eq-eqb, ◌+◌, ap, refl, ◌∙◌, sym, arith}
use Rattle.std.proofs.lemmas.Bool.Decides.{nat_tests}
use Rattle.std.proofs.lemmas.Bool.{ne_eqb}
use Rattle.sift_base.specs.Draw.{after, next_number}
use Rattle.sift_base.specs.laws.Draws as draws
use Rattle.sift_base.specs.laws.Draws.{after-more}
use Rattle.sift_clocklab.specs.Draws.{noise_drawn, others_before, spread}

-- a draw where so many were made
pub after-next : (x y z n k : ℕ) → y ≡ after x n → z ≡ next_number y → k ≡ n + 1 → z ≡ after x k
after-next x y z n k is next more = next ∙ (ap next_number is ∙ (sym (after-more x n) ∙ ap (after x) (sym more)))

-- draws after draws
pub after-after : (x y m n k : ℕ) → y ≡ after x m → k ≡ m + n → after y n ≡ after x k
after-after x y m n k is more = ap (λ v. after v n) is ∙ (draws.after-after x m n ∙ ap (after x) (sym more))

-- ---- the noise of a row

-- a clock doesn't misread itself
pub noise-same : (error x q p : ℕ) → p ≡ q → noise_drawn error x q p ≡ pos 0
noise-same error x q p same = let test : nat_eq p q ≡ true = eq-eqb p q same in rw test refl

-- another one is misread by a draw
pub noise-other : (error x q p : ℕ) → p ≢ q → noise_drawn error x q p ≡ spread error (after x (others_before q p + 1))
noise-other error x q p differ = rw (ne_eqb p q differ) refl

-- past itself as many others were before as at itself
pub before-same : (q p : ℕ) → p ≡ q → others_before q (p + 1) ≡ others_before q p
before-same q p same = grind (arith, nat_tests)

-- past another one there is one more
pub before-other : (q p : ℕ) → p ≢ q → others_before q (p + 1) ≡ others_before q p + 1
before-other q p differ = grind (arith, nat_tests)
