-- The units that a unit caught, as a line tells them: in version 1 the units, in version 2 each with the ways in which it was caught.
use Rattle.std.specs.Prelude.{codes, ◌≡◌, ℕ, ◌<◌, List, [], ◌∷◌, ◌++◌, map, true, ◌&&◌, ◌||◌, nat_eq, if◌then◌else◌}
use Rattle.std.specs.List.{list_any}
use Rattle.sift_base.specs.Units.{Units, AreUnits, holds, members, unit_limit}
use Rattle.sift_exec.specs.Conviction.{everyone_in, has_kind, kinds_of}
use Rattle.sift_exec.specs.declared.catches.Catches.{Catches}
use Rattle.sift_exec.specs.declared.catches.Kind.{Kind}
use Rattle.sift_exec.specs.declared.catches.Kind.TheVariants.{Poll, Relay, Clock}
use Rattle.sift_exec.specs.declared.catches.Kinds.{Kinds}
use Rattle.sift_line.specs.Part.{list_text, unit_digit, units_text}
use Rattle.sift_line.specs.declared.catch.Bad.{Bad}
use Rattle.sift_line.specs.declared.catch.Bad.TheVariants.{Plain, ByKind}
use Rattle.sift_line.specs.declared.catch.Catch.{Catch}
use Rattle.sift_line.specs.declared.line.Version.{Version}
use Rattle.sift_line.specs.declared.line.Version.TheVariants.{One, Two}

-- ---- texts

-- the letters of the ways in which a unit was caught
abbrev pub kinds_text : Kinds → List ℕ
kinds_text kinds =
    (if kinds.poll then codes "p" else []) ++ ((if kinds.relay then codes "r" else []) ++ (if kinds.clock then codes "c" else []))

-- the units that were caught, as a line tells them: in ascending order, in version 2 each with the letters of its ways
abbrev pub caught_text : Bad → List ℕ
caught_text (Plain units) = units_text (members units)
caught_text (ByKind caught) = list_text (map (λ u. unit_digit u ∷ kinds_text (kinds_of caught u)) (members (everyone_in caught)))

-- ---- versions

-- the version in which they are told so
abbrev pub version_of : Bad → Version
version_of (Plain units) = One
version_of (ByKind caught) = Two

-- what a report of a version tells of catches: version 1 forgets the ways
abbrev pub bad_in : Version → Catches → Bad
bad_in One caught = Plain (everyone_in caught)
bad_in Two caught = ByKind caught

-- the units that are named, in whatever way they were caught
abbrev pub units_in : Bad → Units
units_in (Plain units) = units
units_in (ByKind caught) = everyone_in caught

-- ---- values

-- there is a way
abbrev pub IsSomeKind : Kinds → Type 0
IsSomeKind kinds = (kinds.poll || (kinds.relay || kinds.clock)) ≡ true

-- a unit was caught, in some way
abbrev pub IsCatch : Catch → Type 0
IsCatch c = (c.unit < unit_limit) × IsSomeKind c.kinds

-- each number is a unit's
abbrev pub IsBad : Bad → Type 0
IsBad (Plain units) = AreUnits units
IsBad (ByKind caught) = AreUnits caught.poll × AreUnits caught.relay × AreUnits caught.clock

-- ---- as the code reads them

-- a unit that was caught: its digit, and the letters of the ways
abbrev pub catch_text : Catch → List ℕ
catch_text c = unit_digit c.unit ∷ kinds_text c.kinds

-- a unit, and the ways in which it was caught
abbrev pub catch_of : Catches → ℕ → Catch
catch_of caught u = record { unit = u; kinds = kinds_of caught u }

-- the units that were caught, in ascending order
abbrev pub catches_in : Catches → List Catch
catches_in caught = map (catch_of caught) (members (everyone_in caught))

-- these are the units that a list tells to be caught in this way
abbrev pub AreTold : List Catch → Kind → Units → Type 0
AreTold list kind units = (u : ℕ) → holds units u ≡ list_any (λ c. nat_eq c.unit u && has_kind c.kinds kind) list

-- so are the units of each way
pub record IsToldBy (list : List Catch) (caught : Catches) : Type 0 where
  pub poll : AreTold list Poll caught.poll
  pub relay : AreTold list Relay caught.relay
  pub clock : AreTold list Clock caught.clock
