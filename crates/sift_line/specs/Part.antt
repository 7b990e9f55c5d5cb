-- The parts of a line, and the text of each.
use Rattle.std.specs.Prelude.{codes, ℕ, ◌+◌, ◌/◌, ◌%◌, ◌<◌, ◌≤◌, List, [], ◌∷◌, map, Bool, true, false, Option, Some, None, ⊤}
use Rattle.std.specs.Str.{byte}
use Rattle.std.specs.Fmt.{digit_glyph}
use Rattle.std.specs.List.{join_with_byte}
use Rattle.sift_base.specs.Units.{unit_limit}

-- the byte between the fields of a line
abbrev pub blank : ℕ
blank = 32

-- the byte that stands for what isn't there
abbrev pub dash : ℕ
dash = 45

-- ---- texts

-- a word: four hexadecimal digits
abbrev pub word_text : ℕ → List ℕ
word_text w = digit_glyph false (w / 4096) ∷ digit_glyph false (w / 256 % 16) ∷ digit_glyph false (w / 16 % 16) ∷ digit_glyph false (w % 16) ∷ []

-- a list: its parts with commas between them, or `-` where it has none
abbrev pub list_text : List (List ℕ) → List ℕ
list_text [] = codes "-"
list_text (part ∷ parts) = join_with_byte (byte ",") (part ∷ parts)

-- a list of words
abbrev pub words_text : List ℕ → List ℕ
words_text words = list_text (map word_text words)

-- the text of what is there, or `-` where nothing is
abbrev pub text_or_dash : {A : Type 0} → (A → List ℕ) → Option A → List ℕ
text_or_dash text None = codes "-"
text_or_dash text (Some value) = text value

-- whether a frame has margin
abbrev pub margin_text : Bool → List ℕ
margin_text true = codes "ok"
margin_text false = codes "lost"

-- the digit of a unit
abbrev pub unit_digit : ℕ → ℕ
unit_digit u = 48 + u

-- units: their digits, or `-` where there is none
abbrev pub units_text : List ℕ → List ℕ
units_text [] = codes "-"
units_text (u ∷ us) = map unit_digit (u ∷ us)

-- ---- values

-- units that ascend, from this one or a later one
abbrev pub AscendFrom : ℕ → List ℕ → Type 0
AscendFrom least [] = ⊤
AscendFrom least (u ∷ us) = (least ≤ u) × (u < unit_limit) × AscendFrom (u + 1) us

-- ---- bytes

-- each byte of a text is above this one
abbrev pub IsAbove : ℕ → List ℕ → Type 0
IsAbove c [] = ⊤
IsAbove c (b ∷ bs) = (c < b) × IsAbove c bs

-- each byte of some texts is
abbrev pub AreAbove : ℕ → List (List ℕ) → Type 0
AreAbove c [] = ⊤
AreAbove c (text ∷ texts) = IsAbove c text × AreAbove c texts
