-- The first place that offends.
use Rattle.std.proofs.Common.{◌≡◌, ℕ, ◌<◌, ◌≤◌, length, sym, subst, arith, inl, inr}
use Rattle.std.specs.Prelude.{◌≢◌, ◌⊎◌, ◌==◌, true, false}
use Rattle.std.proofs.lemmas.Bool.Decides.{eqb_tells}
use Rattle.sift_code.specs.declared.refusal.Bad.{Bad}
use Rattle.sift_code.specs.Refusal.{Program, Refuses, place_of, IsFree, IsFirst}

-- a refusal at a place before which nothing offends
pub first_at : (program : Program) (p : ℕ) (bad : Bad) → p ≤ length program.code → ((q : ℕ) → q < p → IsFree program q)
    → Refuses program bad × (place_of bad ≡ p) → IsFirst program bad
first_at program p bad inside free is =
    record { offends = is.0; inside = omega (arith, is.1); first = λ q before. free q (omega (arith, is.1)) }

-- nothing offends where nothing does before the code's length, and nothing there
pub free_through : (program : Program) (p last : ℕ) → p ≡ last → last ≡ length program.code → ((q : ℕ) → q < p → IsFree program q)
    → IsFree program last → (q : ℕ) → q ≤ length program.code → IsFree program q
free_through program p last e end before here q to = by (eqb_tells q last)
  where
    by : ((q == last) ≡ true) × (q ≡ last) ⊎ (((q == last) ≡ false) × (q ≢ last)) → IsFree program q
    by (inl same) = subst (IsFree program) (sym same.1) here
    by (inr d) = before q (omega (arith, d.1))
