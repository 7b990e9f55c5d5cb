-- The bytes of a text: its limits, which of them are a lexeme, which stand between lexemes and mean nothing, and the words that the language keeps.
use Rattle.std.specs.Prelude.{ℕ, ◌≡◌, ◌+◌, ◌-◌, ◌<◌, ◌≤◌, ◌⊎◌, min, ◌==◌, ◌||◌, if◌then◌else◌, Bool, List, [], ◌∷◌, ◌++◌, length, codes, slice_get, Option, Some, None}
use Rattle.std.specs.List.{position_from}
use Rattle.std.specs.Option.{option_and_then}
use Rattle.std.specs.Char.{IsAsciiAlphabetic}
use Rattle.std.specs.Str.{byte, bytes_eq}
use Rattle.std.specs.Str.Parse.{digits_value, AllDigits}
use Rattle.sift_base.specs.Name.{keywords, HasNameForm}
use Rattle.sift_lang.specs.declared.tree.Op.{Op}
use Rattle.sift_lang.specs.declared.tree.Op.TheVariants.{Add, Sub, Mul, Div, Rem, And, Or, Xor, Shl, Shr, Lt, Eq}
use Rattle.sift_parse.specs.declared.token.Sign.{Sign}
use Rattle.sift_parse.specs.declared.token.Sign.TheVariants.{Assign, OpenParen, CloseParen, OpenBrace, CloseBrace, Comma, Dot, Semicolon}
use Rattle.sift_parse.specs.declared.token.Keyword.{Keyword}
use Rattle.sift_parse.specs.declared.token.Keyword.TheVariants.{Let, Out, If, Else, Repeat, Mid, Sense, Now, Last}

-- ---- the limits of texts. Those of locals and rounds are the language's, and that of names is theirs

-- the most bytes of a text
abbrev pub text_limit : ℕ
text_limit = 4096

-- the most blocks, parentheses and minuses that may be open at once
abbrev pub level_limit : ℕ
level_limit = 32

-- the greatest number that a text may hold
abbrev pub number_limit : ℕ
number_limit = 65535

-- ---- lexemes

-- a lexeme: a word of the form of a name, keywords among them, a number, an operator, or another sign
pub data Lexeme : Type 0 where
  word : List ℕ → Lexeme
  numeral : ℕ → Lexeme
  operator : Op → Lexeme
  mark : Sign → Lexeme

-- the bytes of an operator
abbrev pub operator_bytes : Op → List ℕ
operator_bytes Add = codes "+"
operator_bytes Sub = codes "-"
operator_bytes Mul = codes "*"
operator_bytes Div = codes "/"
operator_bytes Rem = codes "%"
operator_bytes And = codes "&"
operator_bytes Or = codes "|"
operator_bytes Xor = codes "^"
operator_bytes Shl = codes "<<"
operator_bytes Shr = codes ">>"
operator_bytes Lt = codes "<"
operator_bytes Eq = codes "=="

-- the bytes of a sign
abbrev pub sign_bytes : Sign → List ℕ
sign_bytes Assign = codes "="
sign_bytes OpenParen = codes "("
sign_bytes CloseParen = codes ")"
sign_bytes OpenBrace = codes "{"
sign_bytes CloseBrace = codes "}"
sign_bytes Comma = codes ","
sign_bytes Dot = codes "."
sign_bytes Semicolon = codes ";"

-- the bytes are digits of this radix and write this number, or one more than the greatest for each greater one, which no task may hold
pub record IsNumeral (radix : ℕ) (bytes : List ℕ) (n : ℕ) : Type 0 where
  pub some : 0 < length bytes
  pub digits : AllDigits radix bytes
  pub value : n ≡ min (digits_value radix bytes) (number_limit + 1)

-- these bytes are this lexeme; a number is written in decimal digits, or in hexadecimal ones of either case after `0x`
abbrev pub Spells : Lexeme → List ℕ → Type 0
Spells (word w) bytes = HasNameForm bytes × (w ≡ bytes)
Spells (numeral n) bytes = IsNumeral 10 bytes n ⊎ ((written : List ℕ) × (bytes ≡ codes "0x" ++ written) × IsNumeral 16 written n)
Spells (operator op) bytes = bytes ≡ operator_bytes op
Spells (mark s) bytes = bytes ≡ sign_bytes s

-- the lexeme may stand before these bytes: no letter and no `_` follows a number directly
abbrev pub MayStandBefore : Lexeme → List ℕ → Type 0
MayStandBefore (numeral n) (b ∷ rest) = ¬ (IsAsciiAlphabetic b ⊎ (b ≡ byte "_"))
MayStandBefore _ _ = Unit {0}

-- the text begins with this lexeme, the longest that fits, and rest follows it
pub record IsLexeme (text : List ℕ) (l : Lexeme) (rest : List ℕ) : Type 0 where
  pub spelled : List ℕ
  pub split : text ≡ spelled ++ rest
  pub spells : Spells l spelled
  pub longest : (other : Lexeme) (bytes back : List ℕ) → text ≡ bytes ++ back → Spells other bytes → length bytes ≤ length spelled
  pub parted : MayStandBefore l rest

-- ---- between lexemes

-- blanks, tabs, line feeds and carriage returns
abbrev pub is_blank : ℕ → Bool
is_blank b = (b == byte " ") || (b == byte "\t") || (b == byte "\n") || (b == byte "\r")

abbrev mutual
  -- what follows the blanks and the comments at the front
  pub after_gap : List ℕ → List ℕ
  after_gap [] = []
  after_gap (b ∷ bs) = if is_blank b then after_gap bs else (if b == byte "#" then after_comment bs else b ∷ bs)

  -- what follows a comment, which ends with its line
  pub after_comment : List ℕ → List ℕ
  after_comment [] = []
  after_comment (b ∷ bs) = if b == byte "\n" then after_gap bs else after_comment bs

-- ---- a text

-- a lexeme and the place of its first byte
pub record Placed : Type 0 where
  pub lexeme : Lexeme
  pub at : ℕ

-- From the text on, these lexemes are read one after another, and rest is where the next would begin. Places count from the start of the whole text of so many bytes.
pub data Lexes (total : ℕ) : List ℕ → List Placed → List ℕ → Type 0 where
  no_lexeme : (text : List ℕ) → Lexes total text [] (after_gap text)
  a_lexeme : (text mid rest : List ℕ) (l : Lexeme) (ls : List Placed) → IsLexeme (after_gap text) l mid → Lexes total mid ls rest → Lexes total text (record { lexeme = l; at = total - length (after_gap text) } ∷ ls) rest

-- ---- the words that the language keeps for itself

-- the keyword that a word is: the one at its place among the words that the language keeps
abbrev pub keyword_of : List ℕ → Option Keyword
keyword_of w =
    option_and_then (slice_get (Let ∷ Out ∷ If ∷ Else ∷ Repeat ∷ Mid ∷ Sense ∷ Now ∷ Last ∷ []))
    (position_from (λ name. bytes_eq w name) 0 keywords)

-- the keyword that a lexeme is
abbrev pub keyword_in : Option Lexeme → Option Keyword
keyword_in (Some (word w)) = keyword_of w
keyword_in _ = None
