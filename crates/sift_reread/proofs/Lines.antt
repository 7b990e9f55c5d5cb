-- A report is read line by line.
use Rattle.std.proofs.Common.{◌≡◌, ◌∙◌, ◌++◌, ◌∷◌, ◌+◌, ◌≤◌, ◌≢◌, [], ℕ, List, length, append_assoc, append-nil, ap, sym, refl, arith}
use Rattle.std.specs.List.{All}
use Rattle.std.proofs.lemmas.List.Elements.{All-nil, All-push}
use Rattle.std.proofs.lemmas.List.{flat_map_more, length_push, length-append}
use Rattle.sift_line.specs.Line.{line_text, printed, text_of_lines}
use Rattle.sift_line.specs.declared.line.ReportLine.{ReportLine}
use Rattle.sift_line.specs.declared.line.Version.{Version}
use Rattle.sift_reread.specs.Report.{BeginsWithNoLine, IsLineIn, StopsIn}

-- the report is what was printed so far, which are so many lines, and the rest
pub record IsReadTo (version : Version) (report text rest : List ℕ) (n : ℕ) : Type 0 where
  pub before : List ReportLine
  pub all : All (IsLineIn version) before
  pub read : text_of_lines before ≡ text
  pub split : text ++ rest ≡ report
  pub count : length before ≡ n

-- before a line was printed, a report is no text so far, of 0 lines, and the whole rest
pub begun : (version : Version) (report : List ℕ) → IsReadTo version report [] report 0
begun version report = record { before = []; all = All-nil (IsLineIn version); read = refl; split = refl; count = refl }

-- one line more
pub one_more : (version : Version) (report text rest later : List ℕ) (count : ℕ) (line : ReportLine) → IsReadTo version report text rest count
    → IsLineIn version line → printed line ++ later ≡ rest
    → IsReadTo version report (text ++ printed line) later (count + 1)
one_more version report text rest later count line so_far of more = record {
  before = so_far.before ++ line ∷ [];
  all = All-push (IsLineIn version) so_far.before line so_far.all of;
  read = sym (flat_map_more printed [] so_far.before line) ∙ ap (λ (front : List ℕ). front ++ printed line) so_far.read;
  split = append_assoc text (printed line) later ∙ ap (λ (back : List ℕ). text ++ back) more ∙ so_far.split;
  count = length_push so_far.before line ∙ ap (λ n. n + 1) so_far.count;
}

-- it stops there
pub stops : (version : Version) (report text rest : List ℕ) (count : ℕ) → IsReadTo version report text rest count → rest ≢ []
    → BeginsWithNoLine version rest → StopsIn version (count + 1) report
stops version report text rest count so_far some none = record {
  before = so_far.before;
  all = so_far.all;
  rest = rest;
  split = ap (λ (front : List ℕ). front ++ rest) so_far.read ∙ so_far.split;
  count = ap (λ n. n + 1) so_far.count;
  some = some;
  none = none;
}

-- each line takes a byte at least
a_byte_each : (lines : List ReportLine) → length lines ≤ length (text_of_lines lines)
a_byte_each [] = omega arith
a_byte_each (line ∷ lines) =
    let rest = a_byte_each lines in
    let whole = length-append (printed line) (text_of_lines lines) in
    let first = length-append (line_text line) (10 ∷ []) in
    omega (arith, rest, whole, first)

-- so the lines so far are as many as the bytes only where none is left
fewer : (version : Version) (report text rest : List ℕ) (count : ℕ) → IsReadTo version report text rest count → count + length rest ≤ length report
fewer version report text rest count so_far =
    let bytes = a_byte_each so_far.before in
    let read = ap length so_far.read in
    let split = ap length so_far.split in
    let both = length-append text rest in
    let lines = so_far.count in
    omega (arith, bytes, read, split, both, lines)

-- nothing is left where nothing is as long as what is left
empty : (xs : List ℕ) → length xs ≤ 0 → xs ≡ []
empty [] few = refl
empty (x ∷ xs) few = absurd (omega (arith, few))

-- where none is left, the whole report was printed
pub whole : (version : Version) (report text rest : List ℕ) (count : ℕ) → IsReadTo version report text rest count → length rest ≤ 0 → text ≡ report
whole version report text rest count so_far none = sym (append-nil text) ∙ ap (λ (back : List ℕ). text ++ back) (sym (empty rest none)) ∙ so_far.split

-- so it was where as many lines as bytes were read
pub whole_at_end : (version : Version) (report text rest : List ℕ) (count : ℕ) → IsReadTo version report text rest count → length report ≤ count → text ≡ report
whole_at_end version report text rest count so_far all =
    let bytes = fewer version report text rest count so_far in
    whole version report text rest count so_far (omega (arith, bytes, all))
