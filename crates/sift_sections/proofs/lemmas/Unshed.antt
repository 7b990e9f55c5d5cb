-- A table of a document of version 1 sheds nothing.
use Rattle.std.proofs.Common.{◌≡◌, ℕ, zero, suc, List, [], ◌∷◌, get_or, Option, Some, None, refl, ap, ◌∙◌, arith}
use Rattle.std.proofs.lemmas.List.Elements.{All-from_recursion, All-map, recursion_from_All}
use Rattle.std.proofs.lemmas.Option.{slice_get-get_or}
use Rattle.std.specs.List.{All, Contains, range_with_len}
use Rattle.std.specs.Prelude.{codes, unwrap_or}
use Rattle.toml.specs.Data.{Data, Members, string, integer, float, boolean, datetime, array, table, no_members, member, as_table, get_member}
use Rattle.sift_base.specs.Layout.{least_units}
use Rattle.sift_table.specs.Schedule.{Schedule, plain_of}
use Rattle.sift_document.specs.Document.{HasOnlyKeys, entries_of, keys_of, members_of, tables_in}
use Rattle.sift_document.specs.Rules.{IsKept, rule}
use Rattle.sift_document.specs.laws.Numbers.{read_by}
use Rattle.sift_sections.specs.Table.{IsTableEntry, schedule_in, schedules_by, shed_of, size_count, table_keys}
use Rattle.sift_sections.proofs.lemmas.Sizes.{entry_fits}
use Rattle.sift_sections.specs.laws.Named.{BreaksTables}

-- a key of version 1 isn't `shed`
other_key :
    (key : List ℕ) → Contains (table_keys 1) key → (value : Data) (rest : Members)
    → get_member (codes "shed") (member key value rest) ≡ get_member (codes "shed") rest
other_key key (zero, low, is) value rest = rw (← is) refl
other_key key (suc zero, low, is) value rest = rw (← is) refl
other_key key (suc (suc zero), low, is) value rest = rw (← is) refl
other_key key (suc (suc (suc zero)), low, is) value rest = rw (← is) refl
other_key key (suc (suc (suc (suc k))), low, is) value rest = absurd (omega (arith, low))

-- so a table with keys of version 1 has no `shed`
no_shed : (members : Members) → HasOnlyKeys (table_keys 1) members → get_member (codes "shed") members ≡ None
no_shed no_members known = refl
no_shed (member key value rest) known =
    let parts = recursion_from_All (Contains (table_keys 1)) (key ∷ keys_of rest) known in
    other_key key parts.0 value rest ∙ no_shed rest (All-from_recursion (Contains (table_keys 1)) (keys_of rest) parts.1)

-- the members of a value that is a table
members_there : (value : Data) (ms : Members) → as_table value ≡ Some ms → members_of value ≡ ms
members_there (table held) ms is = cc is
members_there (string s) ms is = cc is
members_there (integer z) ms is = cc is
members_there (float x) ms is = cc is
members_there (boolean b) ms is = cc is
members_there (datetime t) ms is = cc is
members_there (array xs) ms is = cc is

-- an entry of version 1 sheds nothing
entry_unshed : (place : ℕ) (entry : Data) → IsTableEntry 1 place entry → shed_of (members_of entry) ≡ Some []
entry_unshed place entry fits =
    let known = fits.known in
    ap shed_of (members_there entry known.0 known.1) ∙ ap (read_by [] _) (no_shed known.0 known.2)

module _ (units period tasks : ℕ) where
  -- nor does a table of a document of version 1
  pub schedules_unshed : (value : Option Data) → IsKept (rule 23 (BreaksTables 1 units value)) → All (λ (t : Schedule). t.shed ≡ []) (schedules_by value units period tasks)
  schedules_unshed None kept =
      All-map (λ (t : Schedule). t.shed ≡ []) (λ size. plain_of size period tasks) (range_with_len least_units (size_count units)) (λ i d low. refl)
  schedules_unshed (Some value) kept =
      All-map (λ (t : Schedule). t.shed ≡ []) (schedule_in period) (tables_in (Some value))
      (All-map (λ (members : Members). (schedule_in period members).shed ≡ []) members_of (entries_of (Some value))
      (λ i d low.
      let entry = get_or (entries_of (Some value)) i d in
      let fits = entry_fits units period tasks 1 value kept i entry (slice_get-get_or (entries_of (Some value)) i d low) in
      ap (λ o. unwrap_or o []) (entry_unshed i entry fits)))
