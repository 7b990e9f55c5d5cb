-- One test more among many.
use Rattle.std.proofs.Common.{◌≡◌, ℕ, zero, suc, ◌+◌, ap, Bool, true, false, ◌||◌, refl, sym, ◌∙◌, add-one, arith}
use Rattle.std.specs.List.{list_any, range_with_len}

-- one test more
pub any-more : (n : ℕ) (p : ℕ → Bool) → (list_any p (range_with_len 0 n) || p n) ≡ list_any p (range_with_len 0 (n + 1))
any-more n p =
    let e : n ≡ 0 + n = omega arith in
    ap (λ k. list_any p (range_with_len 0 n) || p k) e ∙ (more 0 n ∙ ap (λ k. list_any p (range_with_len 0 k)) (sym (add-one n)))
  where
    grouped : (x y z : Bool) → ((x || y) || z) ≡ (x || (y || z))
    grouped true y z = refl
    grouped false y z = refl

    alone : (x : Bool) → (false || x) ≡ (x || false)
    alone true = refl
    alone false = refl

    more : (from k : ℕ) → (list_any p (range_with_len from k) || p (from + k)) ≡ list_any p (range_with_len from (suc k))
    more from zero = let e : from + 0 ≡ from = omega arith in rw e (alone (p from))
    more from (suc k) =
        let e : from + suc k ≡ from + 1 + k = omega arith in
        grouped (p from) (list_any p (range_with_len (from + 1) k)) (p (from + suc k))
        ∙ ap (λ t. p from || t) (ap (λ j. list_any p (range_with_len (from + 1) k) || p j) e ∙ more (from + 1) k)
