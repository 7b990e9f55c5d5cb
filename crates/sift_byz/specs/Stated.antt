-- What a document states: how many units there are and how many of them may lie, their values, and the lies.
use Rattle.std.specs.Prelude.{codes, ℕ, ◌≡◌, ◌≢◌, ◌+◌, ◌*◌, ◌<◌, ◌≤◌, List, [], ◌∷◌, length, false, Option, Some, None, option_and_then, unwrap_or, ⊤}
use Rattle.std.specs.List.{All, list_any}
use Rattle.toml.specs.Data.{Data, Members, get, get_member}
use Rattle.sift_base.specs.Units.{has, IsAscending}
use Rattle.sift_document.specs.Document.{digits_to, entries_of, integer_between, read_at, word_array, word_value}
use Rattle.sift_byz.specs.Plan.{LieData, most_traitors, most_units}

-- ---- the root

-- the keys that the root may have
abbrev pub root_keys : List (List ℕ)
root_keys = codes "units" ∷ codes "m" ∷ codes "values" ∷ codes "lie" ∷ []

-- how many units may lie
abbrev pub m_of : Members → Option ℕ
m_of document = read_at (integer_between 0 most_traitors) (codes "m") document

-- how many units there are, where m may lie
abbrev pub units_of : (m : ℕ) → Members → Option ℕ
units_of m document = read_at (integer_between (3 * m + 1) most_units) (codes "units") document

-- the values of so many units
abbrev pub values_of : (units : ℕ) → Members → Option (List ℕ)
values_of units document = read_at (word_array units units) (codes "values") document

-- the value of `lie`
abbrev pub lie_value : Members → Option Data
lie_value document = get_member (codes "lie") document

-- the entries of `lie`; there are none where it is missing, or no array
abbrev pub lies_of : Members → List Data
lies_of document = entries_of (lie_value document)

-- ---- an entry of `lie`

-- the keys that an entry may have
abbrev pub lie_keys : List (List ℕ)
lie_keys = codes "path" ∷ codes "to" ∷ codes "value" ∷ []

-- the most entries
abbrev pub lie_limit : ℕ
lie_limit = 6000

-- the digits of its path and of its receivers
abbrev pub path_of : Data → Option (List ℕ)
path_of lie = option_and_then (digits_to 9) (get (codes "path") lie)

abbrev pub to_of : Data → Option (List ℕ)
to_of lie = option_and_then (digits_to 9) (get (codes "to") lie)

-- no unit of the list stands in it twice
abbrev pub AreDifferent : List ℕ → Type 0
AreDifferent [] = ⊤
AreDifferent (u ∷ us) = (has us u ≡ false) × AreDifferent us

-- a path of 1 to m + 1 different units, each below `units`
pub record IsPath (units m : ℕ) (path : List ℕ) : Type 0 where
  pub some : 0 < length path
  pub short : length path ≤ m + 1
  pub below : All (λ u. u < units) path
  pub different : AreDifferent path

-- receivers of what comes by a path: at least one, in ascending order, each below `units`, and none of them in the path
pub record AreReceivers (units : ℕ) (path to : List ℕ) : Type 0 where
  pub some : 0 < length to
  pub ascending : IsAscending to
  pub below : All (λ u. u < units) to
  pub apart : list_any (has path) to ≡ false

-- the entry has such a path
abbrev pub HasPath : (units m : ℕ) → Data → Type 0
HasPath units m lie = (path : List ℕ) × (path_of lie ≡ Some path) × IsPath units m path

-- it has such a path, and such receivers of what comes by it
abbrev pub HasReceivers : (units m : ℕ) → Data → Type 0
HasReceivers units m lie =
    (path : List ℕ) × (to : List ℕ) × (path_of lie ≡ Some path) × IsPath units m path × (to_of lie ≡ Some to) × AreReceivers units path to

-- it states no value, or a word value
abbrev pub HasWord : Data → Type 0
HasWord lie = (value : Data) → get (codes "value") lie ≡ Some value → word_value value ≢ None

-- the lie that an entry states: it tells nothing where no value is stated
abbrev pub lie_in : Data → LieData
lie_in lie = record { path = unwrap_or (path_of lie) []; to = unwrap_or (to_of lie) []; value = option_and_then word_value (get (codes "value") lie) }
