-- A report is UTF-8.
use Rattle.std.proofs.Common.{◌∷◌, [], List, IsUtf8, subst, arith, IsAscii, zero, suc}
use Rattle.std.specs.List.{All}
use Rattle.std.proofs.lemmas.List.Elements.{All-head, All-tail}
use Rattle.std.proofs.lemmas.Str.{IsUtf8-append, IsUtf8-from_ascii, IsUtf8-nil}
use Rattle.sift_line.specs.Line.{line_text, printed, text_of_lines}
use Rattle.sift_line.specs.Texts.{LinesAreTexts}
use Rattle.sift_line.specs.declared.line.ReportLine.{ReportLine}
use Rattle.sift_line.specs.declared.line.Version.{Version}
use Rattle.sift_reread.specs.Laws.{ReportsAreTexts}
use Rattle.sift_reread.specs.Report.{IsLineIn}

-- a line feed is ASCII
feed_is_ascii : IsAscii (10 ∷ [])
feed_is_ascii zero = omega arith
feed_is_ascii (suc i) = omega arith

module _ (texts : LinesAreTexts) where
  lines_are : (version : Version) (lines : List ReportLine) → All (IsLineIn version) lines → IsUtf8 (text_of_lines lines)
  lines_are version [] all = IsUtf8-nil
  lines_are version (line ∷ lines) all =
      IsUtf8-append (printed line) (text_of_lines lines)
      (IsUtf8-append (line_text line) (10 ∷ []) (texts line (All-head (IsLineIn version) line lines all).0)
      (IsUtf8-from_ascii (10 ∷ []) feed_is_ascii))
      (lines_are version lines (All-tail (IsLineIn version) line lines all))

  -- a report is UTF-8, where its lines are
  pub reports_are : ReportsAreTexts
  reports_are text (version, report) = subst IsUtf8 report.2 (lines_are version report.0 report.1)
