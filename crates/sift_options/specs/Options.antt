-- The options of a command: how words give them.
use Rattle.std.specs.Prelude.{codes, ℕ, ◌≡◌, ◌≤◌, ◌<◌, ◌==◌, ◌^◌, List, [], ◌∷◌, ◌&&◌, nat_le, nat_lt, bytes_eq, Bool, if◌then◌else◌, length, Contains, Option, Some, None, map, string_bytes, ⊤, option_map}
use Rattle.std.specs.Option.{option_and_then}
use Rattle.std.specs.Char.{digit_value}
use Rattle.std.specs.Str.Parse.{AllDigits, digits_value}
use Rattle.std.specs.List.{after_first, before_first, list_all, position_or_len}
use Rattle.sift_options.specs.declared.setting.Flag.{Flag}
use Rattle.sift_options.specs.declared.setting.Numbers.{Numbers}
use Rattle.sift_options.specs.declared.setting.Numbers.TheVariants.{Digit, Any}
use Rattle.sift_options.specs.declared.setting.Options.{Options}

-- ---- an option that a command may have

-- its name, and which numbers it may have
pub record Allowed : Type 0 where
  pub name : List ℕ
  pub numbers : Numbers

-- one with so many numbers, each of one digit; and one with any
abbrev pub digits_to : (limit : ℕ) → (name : List ℕ) → Allowed
digits_to limit name = record { name = name; numbers = Digit limit }

abbrev pub any_number : (name : List ℕ) → Allowed
any_number name = record { name = name; numbers = Any }

-- the one that stands in the code
abbrev pub allowed_by : Flag → Allowed
allowed_by flag = record { name = flag.name.now; numbers = flag.numbers }

-- ---- the options in words

-- a name, and the text of the value
pub record Setting : Type 0 where
  pub name : List ℕ
  pub value : List ℕ

-- the byte is the sign between them, where both are one word
abbrev pub is_sign : ℕ → Bool
is_sign byte = byte == 61

-- the sign is in the word
abbrev pub is_signed : List ℕ → Bool
is_signed word = nat_lt (position_or_len is_sign word) (length word)

-- the options that words give, in their order, where this name stands before them without its value: each is one word, or two. A value that
-- isn't there is empty, which is no number
abbrev pub settings_behind : Option (List ℕ) → List (List ℕ) → List Setting
settings_behind None [] = []
settings_behind (Some name) [] = record { name = name; value = [] } ∷ []
settings_behind (Some name) (value ∷ words) = record { name = name; value = value } ∷ settings_behind None words
settings_behind None (word ∷ words) =
    if is_signed word then record { name = before_first is_sign word; value = after_first is_sign word } ∷ settings_behind None words
    else settings_behind (Some word) words

-- and where none does
abbrev pub settings : List (List ℕ) → List Setting
settings words = settings_behind None words

-- the value of the first with this name
abbrev pub value_in : List Setting → (name : List ℕ) → Option (List ℕ)
value_in [] name = None
value_in (setting ∷ others) name = if bytes_eq setting.name name then Some setting.value else value_in others name

-- ---- their numbers

-- the most digits of a number
abbrev pub digit_limit : ℕ
digit_limit = 20

-- the text is a number in decimal digits, of which the first ones may be 0
abbrev pub is_number : List ℕ → Bool
is_number text = list_all (λ c. nat_lt (digit_value c) 10) text && nat_le 1 (length text) && nat_le (length text) digit_limit
    && nat_lt (digits_value 10 text) (2 ^ 64)

-- the text is this number in decimal digits, of which the first ones may be 0
pub record IsNumber (text : List ℕ) (n : ℕ) : Type 0 where
  pub digits : AllDigits 10 text
  pub some : 1 ≤ length text
  pub few : length text ≤ digit_limit
  pub value : digits_value 10 text ≡ n
  pub low : n < 2 ^ 64

-- it begins with a digit
abbrev pub BeginsWithDigit : List ℕ → Type 0
BeginsWithDigit [] = ⊥
BeginsWithDigit (c ∷ cs) = (48 ≤ c) × (c ≤ 57)

-- the number that it is
abbrev pub number_of : (text : List ℕ) → Option ℕ
number_of text = if is_number text then Some (digits_value 10 text) else None

-- the number of each option by its name, where it is given
abbrev pub Given : Type 0
Given = List ℕ → Option ℕ

-- those that words give
abbrev pub numbers_in : (words : List (List ℕ)) → Given
numbers_in words name = option_and_then number_of (value_in (settings words) name)

-- those of options in the code
abbrev pub given_by : Options → Given
given_by options = numbers_in (map string_bytes options.words.now)

-- ---- words that are options of a command

-- an option may have this number, with this text: one digit, from 1 to a limit, or any
abbrev pub MayBe : Numbers → (text : List ℕ) → ℕ → Type 0
MayBe (Digit limit) text n = (length text ≡ 1) × (1 ≤ n) × (n ≤ limit)
MayBe Any text n = ⊤

-- it is this one, with a number that it may have
pub record IsAllowed (setting : Setting) (flag : Allowed) : Type 0 where
  pub named : flag.name ≡ setting.name
  pub number : ℕ
  pub is : number_of setting.value ≡ Some number
  pub may : MayBe flag.numbers setting.value number

-- it is one of these
abbrev pub IsOneOf : List Allowed → Setting → Type 0
IsOneOf flags setting = (flag : Allowed) × Contains flags flag × IsAllowed setting flag

-- so is each, and none stands twice
abbrev pub AreAmong : List Allowed → List Setting → Type 0
AreAmong flags [] = ⊤
AreAmong flags (setting ∷ others) = IsOneOf flags setting × (value_in others setting.name ≡ None) × AreAmong flags others

-- the words are options, each one of these and at most once
abbrev pub AreOptions : List Allowed → (words : List (List ℕ)) → Type 0
AreOptions flags words = AreAmong flags (settings words)

-- ---- ranges

-- the number of an option, where it is given and in this range
abbrev pub within : (low high : ℕ) → Option ℕ → Option ℕ
within low high None = None
within low high (Some n) = if nat_le low n && nat_le n high then Some n else None
