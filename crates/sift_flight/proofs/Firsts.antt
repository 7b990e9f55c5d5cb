-- The first unit of a list that passes a test, found place by place.
use Rattle.std.proofs.Common.{◌≡◌, ◌≤◌, ℕ, zero, suc, List, [], ◌∷◌, length, drop, Bool, true, false, Some, unwrap_or, refl, arith}
use Rattle.std.specs.Prelude.{slice_get}
use Rattle.std.specs.List.{find}

-- a list from a place on begins with the unit at that place
drop_here : (us : List ℕ) (i u : ℕ) → slice_get us i ≡ Some u → drop i us ≡ u ∷ drop (suc i) us
drop_here [] zero u e = absurd cc
drop_here [] (suc i) u e = absurd cc
drop_here (v ∷ us) zero u e = cc
drop_here (v ∷ us) (suc i) u e = drop_here us i u e

-- past its end nothing is left
nothing_left : (us : List ℕ) (i : ℕ) → length us ≤ i → drop i us ≡ []
nothing_left [] zero seen = refl
nothing_left [] (suc i) seen = refl
nothing_left (u ∷ us) zero seen = absurd (omega arith)
nothing_left (u ∷ us) (suc i) seen = nothing_left us i (omega arith)

module _ (passes : ℕ → Bool) (us : List ℕ) (i u : ℕ) (there : slice_get us i ≡ Some u) where
  -- a unit that passes is the first from its place on
  pub found_here : passes u ≡ true → unwrap_or (find passes (drop i us)) 0 ≡ u
  found_here t = rw (drop_here us i u there, t) refl

  -- one that doesn't is passed over
  pub found_later : passes u ≡ false → unwrap_or (find passes (drop i us)) 0 ≡ unwrap_or (find passes (drop (suc i) us)) 0
  found_later f = rw (drop_here us i u there, f) refl

-- past the end of the list there is none
pub found_nowhere : (passes : ℕ → Bool) (us : List ℕ) (i : ℕ) → length us ≤ i → unwrap_or (find passes (drop i us)) 0 ≡ 0
found_nowhere passes us i seen = rw (nothing_left us i seen) refl
