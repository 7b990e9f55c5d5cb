-- What is kept of a number, digit by digit.
use Rattle.std.proofs.Common.{◌≡◌, ℕ, ◌+◌, ◌*◌, ◌≤◌, min, ap, sym, Option, Some, None, SomeIff, arith}
use Rattle.std.specs.Prelude.{unwrap_or}
use Rattle.std.proofs.Math.Nat.{mul-le-mul_left}
use Rattle.std.proofs.lemmas.Bool.Decides.{nat_tests}
use Rattle.sift_parse.specs.Written.{kept}

kept_by : (v a b d : ℕ) → (kept v ≡ v → a ≡ b) → v ≤ a → kept v ≤ b → min (b + d) 65536 ≡ kept (a + d)
kept_by v a b d same grows rises = grind (arith, nat_tests)

-- what is kept of a number with one more digit
pub kept-more : (v r d : ℕ) → 1 ≤ r → min (kept v * r + d) 65536 ≡ kept (v * r + d)
kept-more v r d le =
    let grows : v * 1 ≤ v * r = mul-le-mul_left v le in
    let rises : kept v * 1 ≤ kept v * r = mul-le-mul_left (kept v) le in
    kept_by v (v * r) (kept v * r) d (λ e. ap (λ n. n * r) (sym e)) (omega arith) (omega arith)

-- the value where there is one
pub unwrap_or-some : (o : Option ℕ) (P : Type 0) (v : ℕ) → SomeIff o P v → P → unwrap_or o 0 ≡ v
unwrap_or-some None P v h p = absurd (h p)
unwrap_or-some (Some x) P v h p = h.1
