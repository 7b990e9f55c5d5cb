-- Lines as bytes: each is a text, and line feeds cut those of a report out.
use Rattle.std.specs.Prelude.{ℕ, ◌≡◌, ◌==◌, List, [], ◌∷◌, ◌++◌, map, IsUtf8}
use Rattle.std.specs.List.{All, slice_split}
use Rattle.sift_line.specs.Line.{IsLine, line_text, text_of_lines}
use Rattle.sift_line.specs.declared.line.ReportLine.{ReportLine}

-- the bytes of each line are a text
abbrev pub LinesAreTexts : Type 0
LinesAreTexts = (line : ReportLine) → IsLine line → IsUtf8 (line_text line)

-- the byte that ends a line
abbrev pub line_feed : ℕ
line_feed = 10

-- what stands between the line feeds of bytes, and last what no line feed ends
abbrev pub texts_of : List ℕ → List (List ℕ)
texts_of bytes = slice_split (λ b. b == line_feed) bytes

-- no line has a line feed: those of printed lines cut them out again, and nothing stands behind the last
abbrev pub LinesComeApart : Type 0
LinesComeApart = (lines : List ReportLine) → All IsLine lines → map line_text lines ++ [] ∷ [] ≡ texts_of (text_of_lines lines)
