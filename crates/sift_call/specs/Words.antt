-- The words of a text: its lines.
use Rattle.std.specs.Prelude.{ℕ, List, [], ◌∷◌, if◌then◌else◌, ◌==◌}
use Rattle.std.specs.Str.{is_utf8}

-- a line feed
abbrev pub line_end : ℕ
line_end = 10

-- a byte before the first line
abbrev pub begun_with : ℕ → List (List ℕ) → List (List ℕ)
begun_with byte [] = (byte ∷ []) ∷ []
begun_with byte (line ∷ lines) = (byte ∷ line) ∷ lines

-- the lines of a text: each ends with a line feed, the last one with that or with the text. An empty text has none
abbrev pub lines : List ℕ → List (List ℕ)
lines [] = []
lines (byte ∷ bytes) = if byte == line_end then [] ∷ lines bytes else begun_with byte (lines bytes)

-- the words of a text: its lines; bytes that are no text have none
abbrev pub words_in : (text : List ℕ) → List (List ℕ)
words_in text = if is_utf8 text then lines text else []
