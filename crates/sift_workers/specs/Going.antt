-- What a step of a pilot came to, and lists of pilots place by place.
use Rattle.std.specs.Prelude.{◌≡◌, ℕ, ◌<◌, List, length, slice_index_or, ⊤}
use Rattle.sift_workers.specs.declared.pilot.Went.{Went}
use Rattle.sift_workers.specs.declared.pilot.Went.TheVariants.{Moved, Waits, Home}

-- no step is left
abbrev pub IsHome : Went → Type 0
IsHome Moved = ⊥
IsHome (Waits unit seen) = ⊥
IsHome Home = ⊤

-- R holds at each place of two lists that are equally long
pub record AtEachPlace {X : Type 0} (R : X → X → Type 0) (xs ys : List X) : Type 0 where
  pub long : length ys ≡ length xs
  pub at : (i : ℕ) (d : X) → i < length xs → R (slice_index_or xs i d) (slice_index_or ys i d)
