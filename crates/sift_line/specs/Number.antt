-- How the texts of numbers begin.
use Rattle.std.specs.Prelude.{ℕ, ◌≡◌, ◌≤◌, ◌⊎◌, List, [], ◌∷◌}
use Rattle.std.specs.Str.{byte}

-- a digit from this one on
abbrev pub IsDigitFrom : ℕ → ℕ → Type 0
IsDigitFrom least b = (least ≤ b) × (b ≤ byte "9")

-- the text begins as a number without a sign: it is one digit, or its first digit isn't 0
abbrev pub IsPlain : List ℕ → Type 0
IsPlain [] = ⊥
IsPlain (b ∷ []) = IsDigitFrom (byte "0") b
IsPlain (b ∷ c ∷ bs) = IsDigitFrom (byte "1") b

-- the text begins as a number below 0: with the sign, and a digit that isn't 0
abbrev pub IsNegative : List ℕ → Type 0
IsNegative [] = ⊥
IsNegative (b ∷ []) = ⊥
IsNegative (b ∷ c ∷ bs) = (b ≡ byte "-") × IsDigitFrom (byte "1") c

-- the text begins as a number with or without a sign
abbrev pub IsSigned : List ℕ → Type 0
IsSigned bs = IsNegative bs ⊎ IsPlain bs
