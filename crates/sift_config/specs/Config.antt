-- Configurations: the units that work on a mission's tasks at a time.
use Rattle.std.specs.Prelude.{◌≡◌, ℕ, ◌%◌, ◌<◌, ◌≤◌, List, length, true, not, slice_index}
use Rattle.std.specs.List.{filter, range_with_len}
use Rattle.sift_base.specs.Units.{Units, unit_limit, holds, has, IsAscending}
use Rattle.sift_base.specs.Layout.{least_units}

-- a list is a configuration: an ascending list of at least four units, each with a number below 8
pub record IsConfig (us : List ℕ) : Type 0 where
  pub enough : least_units ≤ length us
  pub ascending : IsAscending us
  pub inside : (u : ℕ) → has us u ≡ true → u < unit_limit

-- all of a computer's units, of which there are so many
abbrev pub first_units : ℕ → List ℕ
first_units count = range_with_len 0 count

-- the unit that reads sensor x: the sensors are dealt out to the units in turn
abbrev pub reader_of : List ℕ → ℕ → ℕ
reader_of us x = slice_index us (x % length us)

-- the units that remain of a configuration where some are gone
abbrev pub remaining : List ℕ → Units → List ℕ
remaining us gone = filter (λ u. not (holds gone u)) us
