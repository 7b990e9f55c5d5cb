-- What single values and tables of a document say, over the tree that `toml` reads.
use Rattle.std.specs.Prelude.{ℕ, ◌≡◌, ◌≤◌, ◌+◌, ◌-◌, pos, negsuc, int_le, nat_le, ◌&&◌, List, [], ◌∷◌, length, if◌then◌else◌, map, Option, Some, None, option_and_then, option_map, unwrap_or}
use Rattle.std.specs.List.{All, Contains}
use Rattle.std.specs.Str.{byte}
use Rattle.toml.specs.Data.{Data, string, integer, array, Items, no_items, item, Members, no_members, member, get_member, as_array, as_table}
use Rattle.sift_base.specs.Word.{word_of}

-- what is made of a value, where there is one
infixl 10 ◌>>=◌
abbrev pub ◌>>=◌ : {A B : Type 0} → Option A → (A → Option B) → Option B
value >>= made = option_and_then made value

-- ---- tables

-- the keys of a table
abbrev pub keys_of : Members → List (List ℕ)
keys_of no_members = []
keys_of (member key value rest) = key ∷ keys_of rest

-- each key of the table is one of these
abbrev pub HasOnlyKeys : List (List ℕ) → Members → Type 0
HasOnlyKeys known members = All (Contains known) (keys_of members)

-- what a reader makes of the value at a key
abbrev pub read_at : {A : Type 0} → (Data → Option A) → List ℕ → Members → Option A
read_at read key members = option_and_then read (get_member key members)

-- what a reader makes of the value at a key, and something else where the key is missing
abbrev pub read_or : {A : Type 0} → A → (Data → Option A) → List ℕ → Members → Option A
read_or missing read key members = unwrap_or (option_map read (get_member key members)) (Some missing)

-- the value is a table, and each of its keys is one of these
abbrev pub IsTableOf : List (List ℕ) → Data → Type 0
IsTableOf known value = (members : Members) × (as_table value ≡ Some members) × HasOnlyKeys known members

-- the members of a table; another value has none
abbrev pub members_of : Data → Members
members_of (Rattle.toml.specs.Data.table members) = members
members_of _ = no_members

-- ---- arrays

-- the entries of an array
abbrev pub list_of : Items → List Data
list_of no_items = []
list_of (item entry rest) = entry ∷ list_of rest

-- the entries of the array at a key; there are none where no array is
abbrev pub entries_of : Option Data → List Data
entries_of (Some (array items)) = list_of items
entries_of _ = []

-- the tables in the array at a key
abbrev pub tables_in : Option Data → List Members
tables_in value = map members_of (entries_of value)

-- the value is an array of `low` to `high` entries
pub record IsArrayOf (low high : ℕ) (value : Data) : Type 0 where
  pub items : Items
  pub there : as_array value ≡ Some items
  pub enough : low ≤ length (list_of items)
  pub few : length (list_of items) ≤ high

-- what is read of each, where something is read of each
abbrev pub each_read : {A B : Type 0} → (A → Option B) → List A → Option (List B)
each_read read [] = Some []
each_read read (first ∷ rest) = option_and_then (λ value. option_map (λ values. value ∷ values) (each_read read rest)) (read first)

-- what is read of each entry of an array
abbrev pub array_of : {A : Type 0} → (Data → Option A) → Data → Option (List A)
array_of read (array items) = each_read read (list_of items)
array_of read _ = None

-- what is read of each entry of an array of `low` to `high` entries
abbrev pub array_between : {A : Type 0} → (low high : ℕ) → (Data → Option A) → Data → Option (List A)
array_between low high read value =
    option_and_then (λ list. if nat_le low (length list) && nat_le (length list) high then Some list else None) (array_of read value)

-- ---- values

-- the number of an integer from `low` to `high`
abbrev pub integer_between : (low high : ℕ) → Data → Option ℕ
integer_between low high (integer (pos n)) = if nat_le low n && nat_le n high then Some n else None
integer_between low high _ = None

-- the number of an integer of at least 0
abbrev pub natural : Data → Option ℕ
natural (integer (pos n)) = Some n
natural _ = None

-- the word of a word value: an integer from -32,768 to 65,535, a negative one in two's complement
abbrev pub word_value : Data → Option ℕ
word_value (integer z) = if int_le (negsuc 32767) z && int_le z (pos 65535) then Some (word_of z) else None
word_value _ = None

-- the words of an array of `low` to `high` word values
abbrev pub word_array : (low high : ℕ) → Data → Option (List ℕ)
word_array low high value = array_between low high word_value value

-- the number of a digit from `0` to the last of them
abbrev pub digit_to : (last : ℕ) → ℕ → Option ℕ
digit_to last b = if nat_le (byte "0") b && nat_le b (byte "0" + last) then Some (b - byte "0") else None

-- the numbers of a string of such digits, which may be empty
abbrev pub digits_to : (last : ℕ) → Data → Option (List ℕ)
digits_to last (string bytes) = each_read (digit_to last) bytes
digits_to last _ = None
