-- Line feeds cut the lines out of a report.
use Rattle.std.proofs.Common.{◌≡◌, ◌∙◌, sym, ap, refl, ℕ, false, List, [], ◌∷◌, ◌++◌, append_assoc, eqb, arith}
use Rattle.std.specs.List.{All}
use Rattle.std.proofs.lemmas.List.Elements.{All-head, All-tail}
use Rattle.std.proofs.lemmas.List.Splits.{slice_split_at}
use Rattle.sift_line.specs.Line.{IsLine, fields_of, line_text, text_of_lines}
use Rattle.sift_line.specs.Texts.{LinesComeApart, texts_of}
use Rattle.sift_line.specs.declared.line.ReportLine.{ReportLine}
use Rattle.sift_line.proofs.Above.{above-join, all-lower}
use Rattle.sift_line.proofs.Fields.{fields_above}
use Rattle.sift_line.proofs.Joined.{itself, without}

-- no line has one
no_line_feed : (line : ReportLine) → IsLine line → All (λ b. eqb b 10 ≡ false) (line_text line)
no_line_feed line holds = without 10 (line_text line)
    (above-join 10 32 (fields_of line) (omega arith) (all-lower 10 32 (fields_of line) (omega arith) (fields_above line holds)))

-- the first one ends the first line
first_line : (line : ReportLine) (rest : List ℕ) → IsLine line → texts_of ((line_text line ++ 10 ∷ []) ++ rest) ≡ line_text line ∷ texts_of rest
first_line line rest holds =
    ap texts_of (append_assoc (line_text line) (10 ∷ []) rest)
    ∙ slice_split_at (λ b. eqb b 10) (line_text line) 10 rest (no_line_feed line holds) (itself 10)

-- so each ends one, and nothing stands behind the last
pub come_apart : LinesComeApart
come_apart [] all = refl
come_apart (line ∷ lines) all =
    ap (λ (texts : List (List ℕ)). line_text line ∷ texts) (come_apart lines (All-tail IsLine line lines all))
    ∙ sym (first_line line (text_of_lines lines) (All-head IsLine line lines all))
