-- How many workers fly together.
use Rattle.std.specs.Prelude.{ℕ, ◌≤◌}
use Rattle.sift_base.specs.Units.{unit_limit}

-- the fewest that fly together
abbrev pub fewest_workers : ℕ
fewest_workers = 2

-- so many may fly together
pub record AreSeveral (count : ℕ) : Type 0 where
  pub enough : fewest_workers ≤ count
  pub few : count ≤ unit_limit
