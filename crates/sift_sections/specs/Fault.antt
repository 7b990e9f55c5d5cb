-- What the tables of `fault` say, and their rules.
use Rattle.std.specs.Prelude.{codes, ℕ, ◌≡◌, ◌-◌, ◌⊎◌, List, [], ◌∷◌, Option, Some, None, option_map, unwrap_or}
use Rattle.std.specs.List.{All}
use Rattle.toml.specs.Data.{Data, Members, get_member}
use Rattle.sift_base.specs.Units.{unit_limit}
use Rattle.sift_script.specs.Script.{Change, Failing, Fault, changing}
use Rattle.sift_mission.specs.PartsFit.{frame_limit}
use Rattle.sift_document.specs.Document.{IsArrayOf, IsTableOf, each_read, entries_of, integer_between, read_at, read_or, tables_in}
use Rattle.sift_document.specs.Rules.{HoldsOf, BreaksEntries, Rule, rule}
use Rattle.sift_sections.specs.Item.{change_in, item_keys}
use Rattle.sift_sections.specs.Storm.{storm_in}

-- ---- what they say

-- the most faults
abbrev pub fault_limit : ℕ
fault_limit = 16

-- the most items of a fault
abbrev pub item_limit : ℕ
item_limit = 64

-- the unit that fails, and the first frame in which it is faulty
abbrev pub unit_of : Members → Option ℕ
unit_of fault = read_at (integer_between 0 (unit_limit - 1)) (codes "unit") fault

abbrev pub from_of : Members → Option ℕ
from_of fault = read_at (integer_between 0 (frame_limit - 1)) (codes "from") fault

-- the changes that the items of a fault state
abbrev pub changes_of : Members → Option (List Change)
changes_of fault = each_read change_in (tables_in (get_member (codes "say") fault))

-- the storm of a fault, or none where no `storm` is there
abbrev pub stated_storm : Members → Option (Option Failing)
stated_storm fault = read_or None (λ value. option_map (λ storm. Some storm) (storm_in value)) (codes "storm") fault

-- ---- their rules

-- the value is an array of 1 to 64 tables with known keys
pub record AreItems (value : Data) : Type 0 where
  pub few : IsArrayOf 1 item_limit value
  pub known : All (IsTableOf item_keys) (entries_of (Some value))

-- the value at this key is there and is right, and nothing stands at the other key
pub record StandsAlone (key other : List ℕ) (IsRight : Data → Type 0) (fault : Members) : Type 0 where
  pub value : Data
  pub there : get_member key fault ≡ Some value
  pub right : IsRight value
  pub alone : get_member other fault ≡ None

-- the rules of the faults in the value of `fault`
abbrev pub fault_rules : Option Data → List Rule
fault_rules value =
    -- `fault` is there, and is no array of at most 16 entries, or has an entry that is no table or has an unknown key
    rule 26 (BreaksEntries 0 fault_limit (λ place. IsTableOf (codes "unit" ∷ codes "from" ∷ codes "say" ∷ codes "storm" ∷ [])) value)
    -- `unit` of a fault is missing or is no integer from 0 to 7, or its `from` is missing or is no integer from 0 to 999
    ∷ rule 27 (λ place. HoldsOf (tables_in value) place (λ fault. (unit_of fault ≡ None) ⊎ (from_of fault ≡ None)))
    -- a fault has neither just a `say`, which is an array of 1 to 64 tables with known keys, nor just a `storm`, which is a table with known keys
    ∷ rule 28 (λ place. HoldsOf (tables_in value) place (λ fault.
    ¬ (StandsAlone (codes "say") (codes "storm") AreItems fault
    ⊎ StandsAlone (codes "storm") (codes "say") (IsTableOf (codes "number" ∷ codes "strays" ∷ [])) fault)))
    -- an item of a fault states no change
    ∷ rule 29 (λ place. HoldsOf (tables_in value) place (λ fault. changes_of fault ≡ None))
    -- `storm` of a fault is there, and its `number` is missing or is no integer of at least 0, or its `strays` is missing or is no integer
    -- from 0 to 1,000,000
    ∷ rule 30 (λ place. HoldsOf (tables_in value) place (λ fault. stated_storm fault ≡ None))
    ∷ []

-- ---- the faults

-- the fault that a table states; its way of failing comes of the storm, where there is one, and else of the changes
abbrev pub fault_in : Members → Fault
fault_in fault = record {
  unit = unwrap_or (unit_of fault) 0;
  from = unwrap_or (from_of fault) 0;
  plan = unwrap_or (unwrap_or (stated_storm fault) None) (changing (unwrap_or (changes_of fault) []));
}
