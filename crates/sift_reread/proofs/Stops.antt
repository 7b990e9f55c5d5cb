-- A report stops nowhere, and a text stops at one line at most to be one.
use Rattle.std.proofs.Common.{◌≡◌, ◌≢◌, ◌∙◌, ◌++◌, ◌∷◌, ◌+◌, [], ℕ, List, length, append_assoc, ap, sym, refl, arith, subst, length-append, ◌≤◌}
use Rattle.std.specs.List.{All}
use Rattle.std.proofs.lemmas.List.Elements.{All-head, All-tail}
use Rattle.sift_line.specs.Line.{line_text, printed, text_of_lines}
use Rattle.sift_line.specs.Texts.{LinesComeApart}
use Rattle.sift_line.specs.declared.line.ReportLine.{ReportLine}
use Rattle.sift_line.specs.declared.line.Version.{Version}
use Rattle.sift_line.specs.declared.line.Version.TheVariants.{One, Two}
use Rattle.sift_reread.specs.Laws.{ReportsStopNowhere, TextsStopOnce}
use Rattle.sift_reread.specs.Report.{BeginsWithNoLine, IsLineIn, IsReportIn, StopsIn}
use Rattle.sift_reread.proofs.FirstLine.{begins, goes_on}

module _ (apart : LinesComeApart) (version : Version) where
  -- lines and something that begins with none are no other lines
  no_lines : (lines before : List ReportLine) (rest : List ℕ) → All (IsLineIn version) lines → All (IsLineIn version) before
      → rest ≢ [] → BeginsWithNoLine version rest → text_of_lines before ++ rest ≢ text_of_lines lines
  no_lines [] [] rest all these some none same = some same
  no_lines (line ∷ lines) [] rest all these some none same =
      begins apart version line (text_of_lines lines) (All-head (IsLineIn version) line lines all)
      (subst (BeginsWithNoLine version) same none)
  no_lines [] (other ∷ before) rest all these some none same =
      let long = ap length same in
      absurd (omega (arith, long, longer other before rest))
    where
      longer : (line : ReportLine) (later : List ReportLine) (rest : List ℕ) → 1 ≤ length (text_of_lines (line ∷ later) ++ rest)
      longer line later rest = omega (
        arith,
        length-append (text_of_lines (line ∷ later)) rest,
        length-append (printed line) (text_of_lines later),
        length-append (line_text line) (10 ∷ []),
      )
  no_lines (line ∷ lines) (other ∷ before) rest all these some none same =
      no_lines lines before rest (All-tail (IsLineIn version) line lines all) (All-tail (IsLineIn version) other before these) some none
      (goes_on apart other line (text_of_lines before ++ rest) (text_of_lines lines) (All-head (IsLineIn version) other before these).0
      (All-head (IsLineIn version) line lines all).0 (sym (append_assoc (printed other) (text_of_lines before) rest) ∙ same))

  -- lines and something that begins with none are as many lines in each reading
  as_many : (lines before : List ReportLine) (end rest : List ℕ) → All (IsLineIn version) lines → All (IsLineIn version) before
      → BeginsWithNoLine version end → BeginsWithNoLine version rest → text_of_lines lines ++ end ≡ text_of_lines before ++ rest
      → length lines ≡ length before
  as_many [] [] end rest all these none nor same = refl
  as_many (line ∷ lines) [] end rest all these none nor same =
      absurd (begins apart version line (text_of_lines lines ++ end) (All-head (IsLineIn version) line lines all)
      (subst (BeginsWithNoLine version) (sym same ∙ append_assoc (printed line) (text_of_lines lines) end) nor))
  as_many [] (other ∷ before) end rest all these none nor same =
      absurd (begins apart version other (text_of_lines before ++ rest) (All-head (IsLineIn version) other before these)
      (subst (BeginsWithNoLine version) (same ∙ append_assoc (printed other) (text_of_lines before) rest) none))
  as_many (line ∷ lines) (other ∷ before) end rest all these none nor same =
      let later = as_many lines before end rest (All-tail (IsLineIn version) line lines all) (All-tail (IsLineIn version) other before these) none nor
      (goes_on apart line other (text_of_lines lines ++ end) (text_of_lines before ++ rest) (All-head (IsLineIn version) line lines all).0
      (All-head (IsLineIn version) other before these).0
      (sym (append_assoc (printed line) (text_of_lines lines) end) ∙ same ∙ append_assoc (printed other) (text_of_lines before) rest)) in
      omega (arith, later)

  -- a report of a version doesn't stop in it
  stops_not : (text : List ℕ) (number : ℕ) → IsReportIn version text → ¬ StopsIn version number text
  stops_not text number report stop =
      absurd (no_lines report.0 stop.before stop.rest report.1 stop.all stop.some stop.none (stop.split ∙ sym report.2))

  -- a text stops once in a version
  stops_once : (text : List ℕ) (one other : ℕ) → StopsIn version one text → StopsIn version other text → one ≡ other
  stops_once text one other stop again =
      sym stop.count ∙ ap (λ n. n + 1) (as_many stop.before again.before stop.rest again.rest stop.all again.all stop.none again.none
      (stop.split ∙ sym again.split)) ∙ again.count

-- a report has no line at which it stops to be one
pub nowhere : LinesComeApart → ReportsStopNowhere
nowhere apart text number (One, report) stop = stops_not apart One text stop.0 report stop.2
nowhere apart text number (Two, report) stop = stops_not apart Two text stop.1 report stop.3

-- a text has at most one line at which it stops to be a report
pub once : LinesComeApart → TextsStopOnce
once apart text one other stop again =
    let ones = stops_once apart One text stop.0 again.0 stop.2 again.2 in
    let twos = stops_once apart Two text stop.1 again.1 stop.3 again.3 in
    omega (arith, ones, twos, stop.4, again.4)
