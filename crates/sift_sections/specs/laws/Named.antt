-- Names, for laws and proofs, of what the definitions say in its place: keys, values, rules and lists of rules of the sections.
use Rattle.std.specs.Prelude.{codes, ℕ, ◌≡◌, ◌⊎◌, ℤ, List, [], ◌∷◌, Option, Some, None, unwrap_or}
use Rattle.toml.specs.Data.{Data, Members}
use Rattle.sift_script.specs.Script.{Change, Failing, changing}
use Rattle.sift_document.specs.Document.{IsTableOf, members_of, tables_in}
use Rattle.sift_document.specs.Rules.{BreaksEntries, HoldsOf, OfNoEntry, Rule, rule}
use Rattle.sift_sections.specs.Clock.{StartTogether, clock_keys, drifts_of, errors_of, figure_rules, starts_of, unit_rules}
use Rattle.sift_sections.specs.Fault.{AreItems, StandsAlone, changes_of, from_of, stated_storm, unit_of}
use Rattle.sift_sections.specs.Table.{IsTableEntry, positions_of, shed_of, size_count, subframes_at}

-- ---- keys and values

-- the keys of faults
abbrev pub fault_keys : List (List ℕ)
fault_keys = codes "unit" ∷ codes "from" ∷ codes "say" ∷ codes "storm" ∷ []

-- and of storms
abbrev pub storm_keys : List (List ℕ)
storm_keys = codes "number" ∷ codes "strays" ∷ []

-- the way of failing that comes of a storm, where there is one, and else of changes
abbrev pub failing_from : Option Failing → List Change → Failing
failing_from storm changes = unwrap_or storm (changing changes)

-- ---- rules of clocks

-- the clocks don't start together
abbrev pub BreaksStart : (units skew : ℕ) → Members → ℕ → Type 0
BreaksStart units skew clock = OfNoEntry ((starts : List ℤ) → (starts_of units clock ≡ Some starts) → ¬ StartTogether skew starts)

-- their drifts aren't read
abbrev pub BreaksDrift : (units rate : ℕ) → Members → ℕ → Type 0
BreaksDrift units rate clock = OfNoEntry (drifts_of units rate clock ≡ None)

-- their errors aren't read
abbrev pub BreaksErrors : (units error : ℕ) → Members → ℕ → Type 0
BreaksErrors units error clock = OfNoEntry (errors_of units error clock ≡ None)

-- ---- rules of tables

-- there isn't a table for each size, or one isn't as it should be
abbrev pub BreaksTables : (version units : ℕ) → Option Data → ℕ → Type 0
BreaksTables version units value place = BreaksEntries (size_count units) (size_count units) (IsTableEntry version) value place

-- in which subframes a table runs or polls isn't read
abbrev pub BreaksTimes : List Members → ℕ → Type 0
BreaksTimes tables place = HoldsOf tables place (λ table. (subframes_at (codes "run") table ≡ None) ⊎ (subframes_at (codes "poll") table ≡ None))

-- its positions aren't read
abbrev pub BreaksPositions : List Members → ℕ → Type 0
BreaksPositions tables place = HoldsOf tables place (λ table. positions_of table ≡ None)

-- what it sheds isn't read
abbrev pub BreaksShed : List Members → ℕ → Type 0
BreaksShed tables place = HoldsOf tables place (λ table. shed_of table ≡ None)

-- ---- rules of faults

-- a fault has no unit, or no frame from which on it stands
abbrev pub IsHeadless : Members → Type 0
IsHeadless fault = (unit_of fault ≡ None) ⊎ (from_of fault ≡ None)

-- it fails in just one way: it says other words, or it is a storm
abbrev pub HasOneWay : Members → Type 0
HasOneWay fault = StandsAlone (codes "say") (codes "storm") AreItems fault ⊎ StandsAlone (codes "storm") (codes "say") (IsTableOf storm_keys) fault

-- the fault at a place has no head
abbrev pub BreaksHeads : List Members → ℕ → Type 0
BreaksHeads faults place = HoldsOf faults place IsHeadless

-- it doesn't fail in just one way
abbrev pub BreaksWays : List Members → ℕ → Type 0
BreaksWays faults place = HoldsOf faults place (λ fault. HasOneWay fault → ⊥)

-- what it says isn't read
abbrev pub BreaksItems : List Members → ℕ → Type 0
BreaksItems faults place = HoldsOf faults place (λ fault. changes_of fault ≡ None)

-- its storm isn't read
abbrev pub BreaksStorms : List Members → ℕ → Type 0
BreaksStorms faults place = HoldsOf faults place (λ fault. stated_storm fault ≡ None)

-- ---- lists of rules

-- the rules of a clock, by what they speak of
abbrev pub clock_themes : (units : ℕ) → Data → List (List Rule)
clock_themes units value =
    (rule 6 (OfNoEntry (¬ IsTableOf clock_keys value)) ∷ []) ∷ figure_rules (members_of value) ∷ unit_rules units (members_of value) ∷ []

-- the rules of the faults in some tables
abbrev pub each_fault_rules : List Members → List Rule
each_fault_rules faults = rule 27 (BreaksHeads faults) ∷ rule 28 (BreaksWays faults) ∷ rule 29 (BreaksItems faults) ∷ rule 30 (BreaksStorms faults) ∷ []

-- the last rule of the tables
abbrev pub later_table_rules : Option Data → List Rule
later_table_rules value = rule 31 (BreaksShed (tables_in value)) ∷ []
