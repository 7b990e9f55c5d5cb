-- Each rule of a section is kept, or broken at a first place.
use Rattle.std.proofs.Common.{◌≡◌, ◌+◌, ◌⊎◌, inl, inr, ℕ, List, [], ◌∷◌, ◌++◌, length, Option, Some, None, refl, arith}
use Rattle.std.proofs.lemmas.Option.{slice_get_within}
use Rattle.std.specs.Prelude.{unwrap_or, codes}
use Rattle.toml.specs.Data.{Data}
use Rattle.sift_document.specs.Document.{entries_of, members_of, tables_in, IsTableOf}
use Rattle.sift_document.specs.Rules.{HoldsOf, BreaksEntries, IsFirstPlace, OfNoEntry, Rule, rule}
use Rattle.sift_document.specs.laws.Order.{joined, joined_to}
use Rattle.sift_sections.specs.Clock.{clock_keys, clock_rules, drifts_of, error_of, errors_of, length_of, rate_of, skew_of, starts_of}
use Rattle.sift_sections.specs.Fault.{changes_of, fault_limit, fault_rules, from_of, stated_storm, unit_of}
use Rattle.sift_sections.specs.Table.{IsTableEntry, positions_of, shed_of, size_count, table_rules, subframes_at}
use Rattle.sift_sections.specs.laws.Decided.{Decided, at_most, both, either, first_place, holds, negated, nothing, same_number}
use Rattle.sift_sections.specs.laws.KnownEntries.{known_array, known_entry, known_way, known_table}
use Rattle.sift_sections.specs.laws.Named.{fault_keys, IsHeadless, HasOneWay, later_table_rules, clock_themes}
use Rattle.sift_sections.proofs.KnownStarts.{apart_known}

-- a rule is broken at a first place, or at none
abbrev pub IsDecided : Rule → Type 0
IsDecided rule = ((place : ℕ) × IsFirstPlace rule.BrokenAt place) ⊎ ((place : ℕ) → rule.BrokenAt place → ⊥)

-- each of these rules is
abbrev pub AreDecided : List Rule → Type 0
AreDecided [] = Unit {0}
AreDecided (rule ∷ rest) = IsDecided rule × AreDecided rest

decided_joined : (these those : List Rule) → AreDecided these → AreDecided those → AreDecided (these ++ those)
decided_joined [] those known others = others
decided_joined (rule ∷ rest) those known others = (known.0, decided_joined rest those known.1 others)

-- the same of lists of rules, one after the other
abbrev pub AreAllDecided : List (List Rule) → Type 0
AreAllDecided [] = Unit {0}
AreAllDecided (rules ∷ rest) = AreDecided rules × AreAllDecided rest

decided_to : (first : List Rule) (themes : List (List Rule)) → AreDecided first → AreAllDecided themes → AreDecided (joined_to first themes)
decided_to first [] these known = these
decided_to first (rules ∷ rest) these known = decided_to (first ++ rules) rest (decided_joined first rules these known.0) known.1

-- lists of decided rules, one after the other, are decided together
pub decided_all : (themes : List (List Rule)) → AreAllDecided themes → AreDecided (joined themes)
decided_all themes known = decided_to [] themes tt known

-- ---- kinds of rules

-- a rule that speaks of no entry
pub of_none : (fault : Type 0) → Decided fault → ((place : ℕ) × IsFirstPlace (OfNoEntry fault) place) ⊎ ((place : ℕ) → OfNoEntry fault place → ⊥)
of_none fault (inl there) = inl (0, record { broken = (refl, there); first = λ at low. absurd (omega (arith, low)) })
of_none fault (inr none) = inr (λ place broken. none broken.1)

-- a rule that speaks of each entry
pub of_each :
    {A : Type 0} (entries : List A) (Fault : ℕ → A → Type 0) → ((place : ℕ) (entry : A) → Decided (Fault place entry))
    → ((place : ℕ) × IsFirstPlace (λ at. HoldsOf entries at (Fault at)) place) ⊎ ((place : ℕ) → HoldsOf entries place (Fault place) → ⊥)
of_each entries Fault known = first_place (λ at. HoldsOf entries at (Fault at)) (λ at. holds entries at (Fault at) (known at)) (length entries)
    (λ at broken. slice_get_within entries at broken.entry broken.there)

-- a rule of an array and of each of its entries
pub of_array :
    (low high : ℕ) (IsEntry : ℕ → Data → Type 0) (value : Option Data) → ((place : ℕ) (entry : Data) → Decided (IsEntry place entry))
    → ((place : ℕ) × IsFirstPlace (BreaksEntries low high IsEntry value) place) ⊎ ((place : ℕ) → BreaksEntries low high IsEntry value place → ⊥)
of_array low high IsEntry None known = inr (λ place broken. broken)
of_array low high IsEntry (Some value) known = first_place (BreaksEntries low high IsEntry (Some value))
    (λ at. either (both (same_number at 0) (negated (known_array low high value))) (holds (entries_of (Some value)) at _ (λ entry. negated (known at entry))))
    (length (entries_of (Some value)) + 1)
    (λ at broken. elim broken [
      | inl whole ↦ omega (arith, whole.0)
      | inr one ↦ let low = slice_get_within (entries_of (Some value)) at one.entry one.there in omega (arith, low)
    ])

-- ---- the rules

-- each rule of the clocks
pub clock_known : (units : ℕ) (value : Option Data) → AreDecided (clock_rules units value)
clock_known units None = tt
clock_known units (Some value) =
    let clock = members_of value in
    decided_all (clock_themes units value) (
      (of_none _ (negated (known_table clock_keys value)), tt),
      (
        (
          of_none _ (nothing (skew_of clock)),
          (
            of_none _ (either (nothing (error_of clock)) (nothing (rate_of clock))),
            (of_none _ (nothing (length_of clock)), (of_none _ (at_most _ _), (of_none _ (at_most _ _), tt))),
          ),
        ),
        (
          (
            of_none _ (apart_known (unwrap_or (skew_of clock) 0) (starts_of units clock)),
            (
              of_none _ (nothing (drifts_of units (unwrap_or (rate_of clock) 0) clock)),
              (of_none _ (nothing (errors_of units (unwrap_or (error_of clock) 0) clock)), tt),
            ),
          ),
          tt,
        ),
      ),
    )

-- each rule of the tables
pub table_known : (version units : ℕ) (value : Option Data) → AreDecided (table_rules version units value)
table_known version units value = (
  of_array (size_count units) (size_count units) (IsTableEntry version) value (known_entry version),
  (
    of_each (tables_in value) (λ place table. (subframes_at (codes "run") table ≡ None) ⊎ (subframes_at (codes "poll") table ≡ None))
        (λ place table. either (nothing (subframes_at (codes "run") table)) (nothing (subframes_at (codes "poll") table))),
    (of_each (tables_in value) (λ place table. positions_of table ≡ None) (λ place table. nothing (positions_of table)), tt),
  ),
)

-- the last rule of the tables
pub later_table_known : (value : Option Data) → AreDecided (later_table_rules value)
later_table_known value = (of_each (tables_in value) (λ place table. shed_of table ≡ None) (λ place table. nothing (shed_of table)), tt)

-- each rule of the faults
pub fault_known : (value : Option Data) → AreDecided (fault_rules value)
fault_known value = (
  of_array 0 fault_limit (λ place. IsTableOf fault_keys) value (λ place entry. known_table fault_keys entry),
  (
    of_each (tables_in value) (λ place. IsHeadless) (λ place fault. either (nothing (unit_of fault)) (nothing (from_of fault))),
    (
      of_each (tables_in value) (λ place fault. HasOneWay fault → ⊥) (λ place fault. negated (known_way fault)),
      (
        of_each (tables_in value) (λ place fault. changes_of fault ≡ None) (λ place fault. nothing (changes_of fault)),
        (of_each (tables_in value) (λ place fault. stated_storm fault ≡ None) (λ place fault. nothing (stated_storm fault)), tt),
      ),
    ),
  ),
)
