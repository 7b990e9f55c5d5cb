-- Which of several units steps next: the lowest-numbered of least progress below an end.
use Rattle.std.specs.Prelude.{ℕ, ◌<◌, ◌≤◌, List, length, slice_index_or}

module _ {X : Type 0} (progress : X → ℕ) (end : ℕ) (xs : List X) where
  -- of these, whose progress is known, the one at place u is next
  pub record IsNext (u : ℕ) : Type 0 where
    pub there : u < length xs
    pub below : (d : X) → progress (slice_index_or xs u d) < end
    pub least : (v : ℕ) (d : X) → v < length xs → progress (slice_index_or xs u d) ≤ progress (slice_index_or xs v d)
    pub lowest : (v : ℕ) (d : X) → v < u → progress (slice_index_or xs u d) < progress (slice_index_or xs v d)
