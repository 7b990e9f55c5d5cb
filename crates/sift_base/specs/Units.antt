-- Units, sets of units, and the margin of a configuration. A unit is one processor of the computer, and has a number below 8.
use Rattle.std.specs.Prelude.{◌≡◌, ℕ, ◌<◌, ◌^◌, ◌==◌, List, [], ◌∷◌, Bool, true, not, nat_eq, if◌then◌else◌, length, ⊤, ◌≤◌, count_by}
use Rattle.std.specs.List.{AllByRecursion, filter, list_any, sum_by}
use Rattle.std.specs.Int.{bit_at}
use Rattle.std.specs.Ordering.{nat_cmp}
use Rattle.std.specs.FinSet as set

-- ---- units and their sets

-- the most units that a computer has
abbrev pub unit_limit : ℕ
unit_limit = 8

-- the numbers of all units that may be
abbrev pub unit_numbers : List ℕ
unit_numbers = 0 ∷ 1 ∷ 2 ∷ 3 ∷ 4 ∷ 5 ∷ 6 ∷ 7 ∷ []

-- ---- sets

-- a set of units
abbrev pub Units : Type 0
Units = set.FinSet nat_cmp

-- the set has the unit
abbrev pub holds : Units → ℕ → Bool
holds units u = set.contains units u

-- the members of a set, in ascending order
unfoldable pub members : Units → List ℕ
members units = filter (holds units) unit_numbers

-- the number has bit u
abbrev pub has_bit : ℕ → ℕ → Bool
has_bit bits u = bit_at bits u == 1

-- the units whose bits a byte has
abbrev pub units_of : ℕ → Units
units_of bits = set.from_list (filter (has_bit bits) unit_numbers)

-- the byte that has just the bits of a set's units
unfoldable pub bits_of : Units → ℕ
bits_of units = sum_by (λ u. if holds units u then 2 ^ u else 0) unit_numbers

-- each member of the set is a unit's number
abbrev pub AreUnits : Units → Type 0
AreUnits units = (u : ℕ) → holds units u ≡ true → u < unit_limit

-- ---- lists of units

-- the list has the unit
abbrev pub has : List ℕ → ℕ → Bool
has us u = list_any (λ v. nat_eq v u) us

-- the units of a list other than u
abbrev pub others : ℕ → List ℕ → List ℕ
others u us = filter (λ v. not (nat_eq v u)) us

-- each unit of the list is below all that follow it
abbrev pub IsAscending : List ℕ → Type 0
IsAscending [] = ⊤
IsAscending (u ∷ us) = AllByRecursion (λ v. u < v) us × IsAscending us

-- ---- laws

-- the list of a set's members is ascending, has just the units that the set has, and is as long as the set has members
abbrev pub MembersAreTheSet : Type 0
MembersAreTheSet = (units : Units) →
    IsAscending (members units) × ((u : ℕ) → u < unit_limit → has (members units) u ≡ holds units u)
    × (AreUnits units → length (members units) ≡ set.len units)

-- ---- working and faulty units of a configuration, and the margin within which it stands a fault

-- how many units of the list don't work
abbrev pub faulty_count : (ℕ → Bool) → List ℕ → ℕ
faulty_count works us = count_by (λ u. not (works u)) us

-- the configuration has margin: at most one of its units is faulty, and at least four work
pub record HasMargin (works : ℕ → Bool) (us : List ℕ) : Type 0 where
  pub few : faulty_count works us ≤ 1
  pub enough : 4 ≤ count_by works us
