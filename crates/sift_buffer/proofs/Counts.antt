-- A round of looks, counted one unit further.
use Rattle.std.proofs.Common.{◌≡◌, ◌≢◌, ℕ, ◌+◌, ◌-◌, nat_lt, Bool, true, false, if◌then◌else◌, refl, arith}
use Rattle.std.proofs.lemmas.Bool.{ltb-true, ltb-false}
use Rattle.sift_buffer.specs.Counts.{others_below}

-- no unit is below 0
pub none_below : (own : ℕ) → others_below own 0 ≡ 0
none_below own = go (nat_lt own 0)
  where
    go : (s : Bool) → ◌≡◌ {A = ℕ} (if s then 0 - 1 else 0) 0
    go true = refl
    go false = refl

-- another unit counts
pub one_more : (own n : ℕ) → n ≢ own → others_below own n + 1 ≡ others_below own (n + 1)
one_more own n ne = go (nat_lt own n) (nat_lt own (n + 1)) refl refl
  where
    go : (s t : Bool) → nat_lt own n ≡ s → nat_lt own (n + 1) ≡ t → (if s then n - 1 else n) + 1 ≡ (if t then n + 1 - 1 else n + 1)
    go true true e f = let low = ltb-true own n e in omega arith
    go true false e f = absurd (let low = ltb-true own n e in let high = ltb-false own (n + 1) f in omega arith)
    go false true e f = absurd (ne (let high = ltb-false own n e in let low = ltb-true own (n + 1) f in omega arith))
    go false false e f = refl

-- the own one doesn't
pub no_more : (own n : ℕ) → n ≡ own → others_below own n ≡ others_below own (n + 1)
no_more own n is = go (nat_lt own n) (nat_lt own (n + 1)) refl refl
  where
    go : (s t : Bool) → nat_lt own n ≡ s → nat_lt own (n + 1) ≡ t → (if s then n - 1 else n) ≡ (if t then n + 1 - 1 else n + 1)
    go true t e f = absurd (let low = ltb-true own n e in omega arith)
    go false true e f = omega arith
    go false false e f = absurd (let high = ltb-false own (n + 1) f in omega arith)
