-- A line is known from its fields, with blanks between them.
use Rattle.std.proofs.Common.{◌≡◌, ℕ, ℤ, ◌<◌, ◌≤◌, ◌^◌, List, [], ◌∷◌, length, map, eqb, Bool, true, false, Option, Some, None, IfSome, sym, ap}
use Rattle.std.proofs.Common.{◌∙◌, subst, arith, rules, w64}
use Rattle.std.specs.Fmt.{decimal, signed_decimal}
use Rattle.std.specs.Int.RustNames.{FitsSigned}
use Rattle.std.specs.List.{join_with_byte, slice_split}
use Rattle.std.proofs.lemmas.List.Splits.{join_with_byte-slice_split}
use Rattle.sift_base.specs.Units.{members}
use Rattle.sift_line.specs.declared.line.ReportLine.{ReportLine}
use Rattle.sift_line.specs.declared.line.ReportLine.TheVariants.{Unit as unit, Faulty, Idle, Frame, Last}
use Rattle.sift_line.specs.Part.{AreAbove, IsAbove, list_text, margin_text, text_or_dash, unit_digit, units_text, word_text, words_text}
use Rattle.sift_line.specs.Bad.{catch_text, catches_in, caught_text}
use Rattle.sift_line.specs.Apart.{catch_above}
use Rattle.sift_line.specs.declared.catch.Bad.{Bad}
use Rattle.sift_line.specs.declared.catch.Bad.TheVariants.{Plain, ByKind}
use Rattle.sift_line.specs.declared.catch.Catch.{Catch}
use Rattle.sift_line.specs.Line.{IsLine, fields_of, line_text}
use Rattle.sift_line.proofs.Above.{above-decimal, above-signed, above-join, above-lower, above-map, above-word}
use Rattle.sift_line.proofs.Joined.{split-join}
use Rattle.sift_line.proofs.Catches.{catches_are}

-- ---- no field has a blank

above-list : (parts : List (List ℕ)) → AreAbove 32 parts → IsAbove 32 (list_text parts)
above-list [] h = (omega arith, tt)
above-list (x ∷ xs) h = above-join 32 44 (x ∷ xs) (omega arith) h

above-words : (words : List ℕ) → IsAbove 32 (words_text words)
above-words words = above-list (map word_text words) (above-map 32 word_text words (λ w. above-word 32 w (omega arith)))

above-digits : (units : List ℕ) → IsAbove 32 (map unit_digit units)
above-digits [] = tt
above-digits (u ∷ us) = (omega arith, above-digits us)

above-units : (units : List ℕ) → IsAbove 32 (units_text units)
above-units [] = (omega arith, tt)
above-units (u ∷ us) = above-digits (u ∷ us)

above-ticks : (ticks : Option ℤ) → IfSome ticks (FitsSigned w64) → IsAbove 32 (text_or_dash signed_decimal ticks)
above-ticks None h = (omega arith, tt)
above-ticks (Some z) h = above-signed 32 z (omega arith) h

above-margin : (margin : Bool) → IsAbove 32 (margin_text margin)
above-margin true = search rules
above-margin false = search rules

above-number : (n : ℕ) → n < 2 ^ 32 → IsAbove 32 (decimal n)
above-number n small = above-decimal 32 n (omega arith) (omega arith)

above-clock : (z : ℤ) → FitsSigned w64 z → IsAbove 32 (signed_decimal z)
above-clock z fits = above-signed 32 z (omega arith) fits

above-digit : (u : ℕ) → 32 < unit_digit u
above-digit u = omega arith

above-catch : (c : Catch) → IsAbove 32 (catch_text c)
above-catch c = above-lower 32 45 (catch_text c) (omega arith) (catch_above c)

above-caught : (bad : Bad) → IsAbove 32 (caught_text bad)
above-caught (Plain units) = above-units (members units)
above-caught (ByKind caught) = subst (IsAbove 32) (catches_are caught)
    (above-list (map catch_text (catches_in caught)) (above-map 32 catch_text (catches_in caught) above-catch))

-- the fields of a line have only bytes above the blank
pub fields_above : (line : ReportLine) → IsLine line → AreAbove 32 (fields_of line)
fields_above (unit n u cfg clk ins outs bad) holds = search (rules, above-number, above-digit, above-units, above-clock, above-words, above-caught)
fields_above (Faulty n u) holds = search (rules, above-number, above-digit)
fields_above (Idle n u) holds = search (rules, above-number, above-digit)
fields_above (Frame n skew slack margin) holds = search (rules, above-number, above-ticks, above-margin)
fields_above (Last n cfg margin) holds = search (rules, above-number, above-units, above-margin)

-- ---- so the blanks of the text cut them out

some_field : (line : ReportLine) → 0 < length (fields_of line)
some_field (unit n u cfg clk ins outs bad) = omega arith
some_field (Faulty n u) = omega arith
some_field (Idle n u) = omega arith
some_field (Frame n skew slack margin) = omega arith
some_field (Last n cfg margin) = omega arith

come_apart : (texts : List (List ℕ)) → 0 < length texts → AreAbove 32 texts → slice_split (λ b. eqb b 32) (join_with_byte 32 texts) ≡ texts
come_apart [] some above = absurd (omega arith)
come_apart (x ∷ xs) some above = split-join 32 x xs above

-- the fields of a line are what the blanks of its text cut out
pub fields_of_text : (line : ReportLine) (bs : List ℕ) → IsLine line → line_text line ≡ bs → fields_of line ≡ slice_split (λ b. eqb b 32) bs
fields_of_text line bs holds e = sym (come_apart (fields_of line) (some_field line) (fields_above line holds)) ∙ ap (slice_split (λ b. eqb b 32)) e

text_of_fields : (line : ReportLine) (bs : List ℕ) → fields_of line ≡ slice_split (λ b. eqb b 32) bs → line_text line ≡ bs
text_of_fields line bs e = ap (join_with_byte 32) e ∙ join_with_byte-slice_split 32 bs

-- where a line is read whose fields are what the blanks of a text cut out, it has that text
pub text_where_read : (result : Option ReportLine) (bs : List ℕ) → IfSome result (λ line. fields_of line ≡ slice_split (λ b. eqb b 32) bs)
    → IfSome result (λ line. line_text line ≡ bs)
text_where_read None bs h = tt
text_where_read (Some line) bs h = text_of_fields line bs h

-- there are at most eight
pub few_fields : (line : ReportLine) → length (fields_of line) ≤ 8
few_fields (unit n u cfg clk ins outs bad) = omega arith
few_fields (Faulty n u) = omega arith
few_fields (Idle n u) = omega arith
few_fields (Frame n skew slack margin) = omega arith
few_fields (Last n cfg margin) = omega arith
