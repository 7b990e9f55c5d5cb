-- What the tables of `table` say, and their rules.
use Rattle.std.specs.Prelude.{codes, ℕ, ◌≡◌, ◌+◌, ◌-◌, ◌⊎◌, List, [], ◌∷◌, map, nat_lt, if◌then◌else◌, Option, Some, None, unwrap_or}
use Rattle.std.specs.List.{range_with_len}
use Rattle.toml.specs.Data.{Data, Members}
use Rattle.sift_base.specs.Layout.{least_units}
use Rattle.sift_base.specs.Shapes.{task_limit}
use Rattle.sift_base.specs.Units.{unit_limit}
use Rattle.sift_table.specs.Schedule.{Schedule, plain_of}
use Rattle.sift_mission.specs.PartsFit.{longest_period}
use Rattle.sift_document.specs.Document.{IsTableOf, array_of, digits_to, integer_between, members_of, read_at, read_or, tables_in}
use Rattle.sift_document.specs.Rules.{HoldsOf, BreaksEntries, Rule, rule}

-- ---- what they say

-- the first version of documents whose tables may shed tasks
abbrev pub shedding_version : ℕ
shedding_version = 2

-- the keys that a table of `table` may have in a document of this version
abbrev pub table_keys : (version : ℕ) → List (List ℕ)
table_keys version =
    codes "size" ∷ codes "run" ∷ codes "poll" ∷ codes "at" ∷ (if nat_lt version shedding_version then [] else codes "shed" ∷ [])

-- the size of the configurations that a table is for
abbrev pub size_of : Members → Option ℕ
size_of table = read_at (integer_between least_units unit_limit) (codes "size") table

-- the subframes at a key: at `run` those in which a table has the tasks run, and at `poll` those in which it has them polled
abbrev pub subframes_at : List ℕ → Members → Option (List ℕ)
subframes_at key table = read_at (array_of (integer_between 0 (longest_period - 1))) key table

-- the positions at which a table has the tasks run
abbrev pub positions_of : Members → Option (List (List ℕ))
positions_of table = read_at (array_of (digits_to (unit_limit - 1))) (codes "at") table

-- the numbers of the tasks that a table sheds; there are none where it doesn't say
abbrev pub shed_of : Members → Option (List ℕ)
shed_of table = read_or [] (array_of (integer_between 0 (task_limit - 1))) (codes "shed") table

-- ---- their rules

-- the entry is a table with keys that are known in this version, and the place tells its size
pub record IsTableEntry (version place : ℕ) (entry : Data) : Type 0 where
  pub known : IsTableOf (table_keys version) entry
  pub sized : size_of (members_of entry) ≡ Some (least_units + place)

-- so many sizes have configurations of so many units, from the least to all
abbrev pub size_count : (units : ℕ) → ℕ
size_count units = units + 1 - least_units

-- the rules of the tables in the value of `table`, for a document of this version and so many units
abbrev pub table_rules : (version units : ℕ) → Option Data → List Rule
table_rules version units value =
    -- `table` is there, and is no array of one entry for each size, or has an entry that is no table, has an unknown key, or another size
    rule 23 (BreaksEntries (size_count units) (size_count units) (IsTableEntry version) value)
    -- `run` or `poll` of a table is missing, or is no array of integers from 0 to 63
    ∷ rule 24 (λ place. HoldsOf (tables_in value) place (λ table. (subframes_at (codes "run") table ≡ None) ⊎ (subframes_at (codes "poll") table ≡ None)))
    -- `at` of a table is missing, or is no array of strings of digits from `0` to `7`
    ∷ rule 25 (λ place. HoldsOf (tables_in value) place (λ table. positions_of table ≡ None))
    ∷ []

-- ---- the schedules

-- the schedule that a table states, for frames of so many subframes
abbrev pub schedule_in : (period : ℕ) → Members → Schedule
schedule_in period table = record {
  size = unwrap_or (size_of table) 0;
  period = period;
  run = unwrap_or (subframes_at (codes "run") table) [];
  poll = unwrap_or (subframes_at (codes "poll") table) [];
  at = unwrap_or (positions_of table) [];
  shed = unwrap_or (shed_of table) [];
}

-- the schedules for the configurations of each size: those that the value states, and the plain ones where there is none
abbrev pub schedules_by : Option Data → (units period tasks : ℕ) → List Schedule
schedules_by None units period tasks = map (λ size. plain_of size period tasks) (range_with_len least_units (size_count units))
schedules_by (Some value) units period tasks = map (schedule_in period) (tables_in (Some value))
