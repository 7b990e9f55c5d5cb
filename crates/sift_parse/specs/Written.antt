-- What the lexer holds, in the words of lexemes. No public clause cites this module.
use Rattle.std.specs.Prelude.{◌≡◌, ◌<◌, ◌≤◌, ◌⊎◌, ◌+◌, ℕ, min, List, [], ◌∷◌, ◌++◌, length, take, drop, map, slice_index, codes}
use Rattle.std.specs.Char.{IsAsciiAlphabetic, IsAsciiLowercase, IsAsciiDigit, digit_value}
use Rattle.std.specs.Str.{byte}
use Rattle.sift_parse.specs.declared.lexeme.Lexeme as held
use Rattle.sift_parse.specs.declared.lexeme.Placed as held_placed
use Rattle.sift_parse.specs.declared.lexeme.Lexeme.TheVariants as variant
use Rattle.sift_parse.specs.Lexeme.{number_limit, Lexeme, word, numeral, operator, mark, operator_bytes, sign_bytes, IsLexeme, Placed, Lexes, after_gap}

-- what is kept of a number: itself, or one more than the greatest of each greater one, which no task may hold
abbrev pub kept : ℕ → ℕ
kept n = min n (number_limit + 1)

-- the lexeme that the code holds
abbrev pub lexeme_of : held.Lexeme → Lexeme
lexeme_of (variant.Word w) = word w.now
lexeme_of (variant.Numeral n) = numeral n
lexeme_of (variant.Operator op) = operator op
lexeme_of (variant.Mark s) = mark s

-- these bytes are this operator or sign
abbrev pub SpellsSign : Lexeme → List ℕ → Type 0
SpellsSign (word w) bytes = ⊥
SpellsSign (numeral n) bytes = ⊥
SpellsSign (operator op) bytes = bytes ≡ operator_bytes op
SpellsSign (mark s) bytes = bytes ≡ sign_bytes s

-- these bytes are no operator and no sign
abbrev pub NoSign : List ℕ → Type 0
NoSign bytes = (l : Lexeme) → ¬ SpellsSign l bytes

-- P holds of each of the first n bytes, and not of the next
pub record IsRun (P : ℕ → Type 0) (bytes : List ℕ) (n : ℕ) : Type 0 where
  pub within : n ≤ length bytes
  pub each : (k : ℕ) → k < n → P (slice_index bytes k)
  pub stops : n < length bytes → ¬ P (slice_index bytes n)

-- the bytes begin with what may not follow a number directly: a letter or `_`
abbrev pub Continues : List ℕ → Type 0
Continues [] = ⊥
Continues (b ∷ rest) = IsAsciiAlphabetic b ⊎ (b ≡ byte "_")

-- the first n bytes are this operator or sign, and no longer one begins the bytes
pub record IsSignAt (bytes : List ℕ) (l : Lexeme) (n : ℕ) : Type 0 where
  pub some : 0 < n
  pub within : n ≤ length bytes
  pub spells : SpellsSign l (take n bytes)
  pub longest : (other : Lexeme) (front back : List ℕ) → bytes ≡ front ++ back → SpellsSign other front → length front ≤ n

-- no operator and no sign begins the bytes
abbrev pub NoSignAt : List ℕ → Type 0
NoSignAt bytes = (front back : List ℕ) → bytes ≡ front ++ back → NoSign front

-- the first n bytes are this lexeme
pub record IsLexemeAt (bytes : List ℕ) (l : Lexeme) (n : ℕ) : Type 0 where
  pub some : 0 < n
  pub within : n ≤ length bytes
  pub lexeme : IsLexeme bytes l (drop n bytes)

-- no lexeme begins the bytes
abbrev pub NoLexemeAt : List ℕ → Type 0
NoLexemeAt bytes = (l : Lexeme) (rest : List ℕ) → ¬ IsLexeme bytes l rest

-- the bytes begin with a lower-case letter
abbrev pub BeginsLetter : List ℕ → Type 0
BeginsLetter [] = ⊥
BeginsLetter (b ∷ rest) = IsAsciiLowercase b

-- the bytes begin with a digit
abbrev pub BeginsDigit : List ℕ → Type 0
BeginsDigit [] = ⊥
BeginsDigit (b ∷ rest) = IsAsciiDigit b

-- so many hexadecimal digits stand after `0x` at the front
pub record IsHexRun (bytes : List ℕ) (n : ℕ) : Type 0 where
  pub run : IsRun (λ b. digit_value b < 16) (drop 2 bytes) n
  pub prefixed : take 2 bytes ≡ codes "0x"

-- no hexadecimal digit stands after `0x` at the front
abbrev pub NoHex : List ℕ → Type 0
NoHex bytes = take 2 bytes ≡ codes "0x" → 2 < length bytes → ¬ (digit_value (slice_index bytes 2) < 16)

-- how many hexadecimal digits stand after `0x` at the front, and 0 where there is no `0x`
pub record IsHexLength (bytes : List ℕ) (n : ℕ) : Type 0 where
  pub some : 0 < n → IsHexRun bytes n
  pub none : n ≡ 0 → NoHex bytes

-- how a number is written at the front: the radix of its digits, where they begin, and how many they are
pub data IsNumberAt (bytes : List ℕ) : ℕ → ℕ → ℕ → Type 0 where
  sixteen : (n : ℕ) → 0 < n → IsHexRun bytes n → IsNumberAt bytes 16 2 n
  ten : (n : ℕ) → NoHex bytes → IsRun (λ b. digit_value b < 10) bytes n → IsNumberAt bytes 10 0 n

-- the blanks and comments at the front are n bytes
pub record IsGap (bytes : List ℕ) (n : ℕ) : Type 0 where
  pub within : n ≤ length bytes
  pub after : drop n bytes ≡ after_gap bytes

-- the lexemes that the code holds, with their places
abbrev pub placed_of : List (held_placed.Placed) → List Placed
placed_of ps = map (λ p. let q : Placed = record { lexeme = lexeme_of p.lexeme; at = p.at } in q) ps

-- these are the lexemes of the text as far as there are any, and the next would begin at this place
pub record IsLexed (text : List ℕ) (ps : List Placed) (at : ℕ) : Type 0 where
  pub within : at ≤ length text
  pub lexes : Lexes (length text) text ps (drop at text)
  pub none : NoLexemeAt (drop at text)
