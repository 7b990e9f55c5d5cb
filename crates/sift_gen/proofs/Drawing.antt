-- Draws after draws.
use Rattle.std.proofs.Common.{◌≡◌, ℕ, ◌+◌, ap, sym, ◌∙◌, arith}
use Rattle.sift_base.specs.Draw.{after, drawn, draw_at}
use Rattle.sift_base.specs.laws.Draws.{after-after}

-- a draw after draws is a draw
pub draw-after : (x a i m : ℕ) → draw_at (after x a) i m ≡ draw_at x (a + i) m
draw-after x a i m = ap (λ n. drawn n m) (after-after x a (i + 1) ∙ ap (after x) (omega arith))

-- the draw that comes after n others, and the number after it
pub draw-next : (x y n m : ℕ) → y ≡ after x n → draw_at y 0 m ≡ draw_at x n m
draw-next x y n m e = ap (λ z. draw_at z 0 m) e ∙ (draw-after x n 0 m ∙ ap (λ k. draw_at x k m) (omega arith))

-- the number after n draws and one more is the number after n + 1 draws
pub after-next : (x y z n k : ℕ) → y ≡ after x n → z ≡ after y 1 → k ≡ n + 1 → z ≡ after x k
after-next x y z n k e next more = next ∙ (ap (λ v. after v 1) e ∙ (after-after x n 1 ∙ ap (after x) (sym more)))
