-- What remains of all units is a configuration.
use Rattle.std.proofs.Common.{◌≡◌, ℕ, ◌<◌, ◌≤◌, List, length, Bool, true, false, not, ◌&&◌, Option, Some, None, refl, ap, ◌∙◌, arith}
use Rattle.std.specs.FinSet as set
use Rattle.std.specs.Ordering.{nat_cmp}
use Rattle.std.specs.Cmp.{nat_cmp_total}
use Rattle.std.specs.Prelude.{IfNone, IfSome}
use Rattle.std.proofs.lemmas.Bool.{agree_below_at}
use Rattle.sift_base.specs.Units.{Units, AreUnits, has, has_bit, holds, members, unit_numbers, units_of}
use Rattle.sift_base.specs.laws.Sets.{holds_low}
use Rattle.sift_base.specs.laws.Counts.{filter_same}
use Rattle.sift_config.specs.Config.{IsConfig, first_units, remaining}
use Rattle.sift_config.specs.laws.FirstUnits.{unit_low}
use Rattle.sift_line.specs.Part.{units_text}
use Rattle.sift_line.proofs.Sets.{config_up, members_of_list, units_of_list}

-- a set that is the complement's complement
not_not : (all some : Bool) → all ≡ true → not (all && not some) ≡ some
not_not true true t = refl
not_not true false t = refl
not_not false some t = absurd cc

-- of all units, those that aren't outside a set are its members
pub rest_is : (units : Units) → remaining (first_units 8) (set.difference (units_of 255) units) ≡ members units
unfolding members
rest_is units = filter_same (λ u. not (holds (set.difference (units_of 255) units) u)) (holds units) unit_numbers each
  where
    each : (u : ℕ) → has unit_numbers u ≡ true → not (holds (set.difference (units_of 255) units) u) ≡ holds units u
    each u there =
        let low = unit_low 8 u there in
        ap not (set.contains-difference nat_cmp_total (units_of 255) units u)
        ∙ not_not (holds (units_of 255) u) (holds units u) (holds_low 255 u low ∙ agree_below_at (has_bit 255) (λ _. true) 8 u refl low)

-- the set of a configuration's units
abbrev pub set_of_config : List ℕ → Units
set_of_config us = set.from_list {R = nat_cmp} us

-- the members of a configuration's set are the configuration
pub config_members : (us : List ℕ) → IsConfig us → members (set_of_config us) ≡ us
config_members us config = members_of_list (set_of_config us) us (config_up us config) (λ u. set.contains-from_list_nat us u)

-- each member of a configuration's set is a unit's number
pub config_units : (us : List ℕ) → IsConfig us → AreUnits (set_of_config us)
config_units us config = units_of_list (set_of_config us) us (config_up us config) (λ u. set.contains-from_list_nat us u)

-- a configuration that remains is printed as its units
pub remains_printed : (r : Option (List ℕ)) (us bs : List ℕ) → IfSome r (λ config. config ≡ us) → units_text us ≡ bs → IfSome r (λ config. units_text config ≡ bs)
remains_printed None us bs found printed = tt
remains_printed (Some config) us bs found printed = ap units_text found ∙ printed

-- four units remain
pub remains : (r : Option (List ℕ)) (us : List ℕ) → IfSome r (λ config. config ≡ us) → IfNone r (length us < 4) → 4 ≤ length us → r ≡ Some us
remains None us found none enough = absurd (omega arith)
remains (Some config) us found none enough = ap Some found
