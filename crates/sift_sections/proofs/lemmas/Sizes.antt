-- The schedules of a document: one for each size, each of the mission's period.
use Rattle.std.proofs.Common.{◌≡◌, ◌<◌, ◌+◌, inl, inr, ℕ, List, [], length, get_or, map, true, Option, Some, None, refl, ap, ◌∙◌, arith}
use Rattle.std.proofs.lemmas.List.{get_or-map, length-map}
use Rattle.std.proofs.lemmas.List.FromFn.{get_or-range_with_len, length-range_with_len}
use Rattle.std.proofs.lemmas.Option.{slice_get-get_or}
use Rattle.std.specs.List.{range_with_len, slice_get}
use Rattle.std.specs.Prelude.{unwrap_or}
use Rattle.toml.specs.Data.{Data, boolean, no_members}
use Rattle.sift_base.specs.Layout.{least_units}
use Rattle.sift_table.specs.Schedule.{Schedule, plain_of}
use Rattle.sift_document.specs.Document.{IsArrayOf, entries_of, members_of, tables_in}
use Rattle.sift_document.specs.Rules.{IsKept, rule}
use Rattle.sift_document.specs.laws.Arrays.{array_entries}
use Rattle.sift_sections.specs.Table.{IsTableEntry, schedule_in, schedules_by, size_count}
use Rattle.sift_sections.specs.laws.Decided.{stable}
use Rattle.sift_sections.specs.laws.KnownEntries.{known_array, known_entry}
use Rattle.sift_sections.specs.laws.Named.{BreaksTables}

-- the schedule of a place has a size and a period
pub record IsSized (period size : ℕ) (table : Schedule) : Type 0 where
  pub sized : table.size ≡ size
  pub timed : table.period ≡ period

-- the schedule at a place of a list, or an empty one past its end
abbrev pub schedule_at : List Schedule → ℕ → Schedule
schedule_at tables i = get_or tables i (record { size = 0; period = 0; run = []; poll = []; at = []; shed = [] })

module _ (units period tasks : ℕ) where
  -- ---- plain ones
  plain_long : length (schedules_by None units period tasks) ≡ size_count units
  plain_long = length-map (range_with_len least_units (size_count units)) (λ size. plain_of size period tasks) ∙ length-range_with_len least_units (size_count units)

  plain_sized :
      (i : ℕ) → i < length (schedules_by None units period tasks)
      → IsSized period (least_units + i) (schedule_at (schedules_by None units period tasks) i)
  plain_sized i low =
      let within : i < size_count units = omega (arith, low, plain_long) in
      let sizes = range_with_len least_units (size_count units) in
      let here : schedule_at (schedules_by None units period tasks) i ≡ plain_of (least_units + i) period tasks =
      get_or-map (λ size. plain_of size period tasks) sizes i 0 _ (rw length-range_with_len within)
      ∙ ap (λ size. plain_of size period tasks) (get_or-range_with_len least_units (size_count units) i 0 within) in
      record { sized = ap (λ (t : Schedule). t.size) here; timed = ap (λ (t : Schedule). t.period) here }

  -- ---- stated ones
  module _ (version : ℕ) (value : Data) (kept : IsKept (rule 23 (BreaksTables version units (Some value)))) where
    number : IsArrayOf (size_count units) (size_count units) value
    number = stable (known_array (size_count units) (size_count units) value) (λ other. kept 0 (inl (refl, other)))

    -- each entry is a table of its size
    pub entry_fits : (i : ℕ) (entry : Data) → slice_get (entries_of (Some value)) i ≡ Some entry → IsTableEntry version i entry
    entry_fits i entry there =
        stable (known_entry version i entry) (λ other. kept i (inr (record { entry = entry; there = there; holds = other })))

    entries_long : length (entries_of (Some value)) ≡ size_count units
    entries_long =
        let same = array_entries value number.items number.there in omega (arith, ap length same, number.enough, number.few)

    stated_long : length (map (schedule_in period) (tables_in (Some value))) ≡ size_count units
    stated_long = length-map (tables_in (Some value)) (schedule_in period) ∙ length-map (entries_of (Some value)) members_of ∙ entries_long

    stated_sized :
        (i : ℕ) → i < length (map (schedule_in period) (tables_in (Some value)))
        → IsSized period (least_units + i) (schedule_at (map (schedule_in period) (tables_in (Some value))) i)
    stated_sized i low =
        let within : i < length (entries_of (Some value)) = omega (arith, low, stated_long, entries_long) in
        let entry = get_or (entries_of (Some value)) i (boolean true) in
        let fits = entry_fits i entry (slice_get-get_or (entries_of (Some value)) i (boolean true) within) in
        let there : get_or (tables_in (Some value)) i no_members ≡ members_of entry = get_or-map members_of (entries_of (Some value)) i (boolean true) no_members within in
        let here : schedule_at (map (schedule_in period) (tables_in (Some value))) i ≡ schedule_in period (members_of entry) =
        get_or-map (schedule_in period) (tables_in (Some value)) i no_members _ (omega (arith, within, length-map (entries_of (Some value)) members_of))
        ∙ ap (schedule_in period) there in
        record {
          sized = ap (λ (t : Schedule). t.size) here ∙ ap (λ o. unwrap_or o 0) fits.sized;
          timed = ap (λ (t : Schedule). t.period) here;
        }

  -- ---- all of them
  -- there is a table for each size
  pub schedules_long : (version : ℕ) (value : Option Data) → IsKept (rule 23 (BreaksTables version units value)) → length (schedules_by value units period tasks) ≡ size_count units
  schedules_long version None kept = plain_long
  schedules_long version (Some value) kept = stated_long version value kept

  -- where the rule of tables is kept, the table at each place is of the size and the period that the place asks for
  pub schedules_sized :
      (version : ℕ) (value : Option Data) → IsKept (rule 23 (BreaksTables version units value)) → (i : ℕ) → i < length (schedules_by value units period tasks)
      → IsSized period (least_units + i) (schedule_at (schedules_by value units period tasks) i)
  schedules_sized version None kept i low = plain_sized i low
  schedules_sized version (Some value) kept i low = stated_sized version value kept i low
