-- The next of several units, found place by place.
use Rattle.std.proofs.Common.{◌≡◌, ℕ, ◌<◌, ◌≤◌, List, length, slice_index_or, Option, Some, None, IfSome, IfNone, All, arith}
use Rattle.sift_bus.specs.Turns.{IsNext}

module _ {X : Type 0} (progress : X → ℕ) (end : ℕ) (xs : List X) where
  -- none was found yet, and the bound is the end; or this one, and the bound is its progress
  abbrev pub IsFound : ℕ → ℕ → Option ℕ → Type 0
  IsFound n below None = below ≡ end
  IsFound n below (Some u) = (u < n) × (below < end) × ((d : X) → below ≡ progress (slice_index_or xs u d))
      × ((v : ℕ) (d : X) → v < u → below < progress (slice_index_or xs v d))

  -- and none of the first n has less progress than the bound
  pub record IsNextBelow (n below : ℕ) (next : Option ℕ) : Type 0 where
    pub found : IsFound n below next
    pub none_less : (v : ℕ) (d : X) → v < n → below ≤ progress (slice_index_or xs v d)

  -- what was found among all of them
  pub next_ends : (n below : ℕ) (next : Option ℕ) → IsNextBelow n below next → n ≡ length xs →
      IfSome next (IsNext progress end xs) × IfNone next (All (λ x. end ≤ progress x) xs)
  next_ends n below None l all = (tt, λ v d low. let f = l.found in let less = l.none_less v d (omega arith) in omega arith)
  next_ends n below (Some u) l all = (
    record {
      there = (let low = l.found.0 in omega arith);
      below = λ d. let low = l.found.1 in let is = l.found.2 d in omega arith;
      least = λ v d low. let is = l.found.2 d in let less = l.none_less v d (omega arith) in omega arith;
      lowest = λ v d low. let is = l.found.2 d in let less = l.found.3 v d low in omega arith;
    },
    tt,
  )
