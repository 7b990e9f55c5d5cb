-- Draws after draws.
use Rattle.std.proofs.Common.{◌≡◌, ℕ, zero, suc, ◌+◌, refl, ap, sym, ◌∙◌, arith}
use Rattle.sift_base.specs.Draw.{after, next_number}

-- no draw
pub after-none : (x : ℕ) → after x 0 ≡ x
unfolding after
after-none x = refl

-- one draw, and then others
after-first : (x n : ℕ) → after (next_number x) n ≡ after x (suc n)
unfolding after
after-first x n = refl

-- draws after draws are draws
pub after-after : (x m n : ℕ) → after (after x m) n ≡ after x (m + n)
after-after x zero n = ap (λ y. after y n) (after-none x) ∙ ap (after x) {x = n} {y = 0 + n} (omega arith)
after-after x (suc m) n =
    ap (λ y. after y n) (sym (after-first x m)) ∙ (after-after (next_number x) m n
    ∙ (after-first x (m + n) ∙ ap (after x) {x = suc (m + n)} {y = suc m + n} (omega arith)))

-- one draw
pub after-one : (x : ℕ) → after x 1 ≡ next_number x
unfolding after
after-one x = refl

-- one draw more
pub after-more : (x n : ℕ) → after x (n + 1) ≡ next_number (after x n)
after-more x n = sym (after-after x n 1) ∙ after-one (after x n)
