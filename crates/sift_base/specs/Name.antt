-- Names of sensors, tasks and locals: which texts may be one.
use Rattle.std.specs.Prelude.{ℕ, ◌≡◌, ◌≤◌, ◌⊎◌, List, [], ◌∷◌, length, codes}
use Rattle.std.specs.Char.{IsAsciiLowercase, IsAsciiDigit}
use Rattle.std.specs.List.{All, Contains}
use Rattle.std.specs.Str.{byte}

-- the most bytes of a name
abbrev pub name_limit : ℕ
name_limit = 16

-- the words that the language of tasks keeps for itself
abbrev pub keywords : List (List ℕ)
keywords = codes "let" ∷ codes "out" ∷ codes "if" ∷ codes "else" ∷ codes "repeat" ∷ codes "mid" ∷ codes "sense" ∷ codes "now" ∷ codes "last" ∷ []

-- a byte that may follow in a name: a lower-case letter, a digit or `_`
abbrev pub IsNameByte : ℕ → Type 0
IsNameByte b = IsAsciiLowercase b ⊎ IsAsciiDigit b ⊎ (b ≡ byte "_")

-- the form of a name: a lower-case letter, and then lower-case letters, digits and `_`
abbrev pub HasNameForm : List ℕ → Type 0
HasNameForm [] = ⊥
HasNameForm (first ∷ rest) = IsAsciiLowercase first × All IsNameByte rest

-- the bytes are a name: they have its form, are no more than may be, and are no keyword
pub record IsName (bytes : List ℕ) : Type 0 where
  pub formed : HasNameForm bytes
  pub short : length bytes ≤ name_limit
  pub free : ¬ Contains keywords bytes
