-- A text has one sheet: no two lines of one version are printed alike, and no two lists of them.
use Rattle.std.specs.Prelude.{◌≡◌, List}
use Rattle.std.specs.List.{All}
use Rattle.sift_line.specs.Line.{HasVersion, IsLine, line_text, text_of_lines}
use Rattle.sift_line.specs.declared.line.ReportLine.{ReportLine}
use Rattle.sift_line.specs.declared.line.Version.{Version}

-- two lines of one version with one text are one line
abbrev pub OneLineOfAText : Type 0
OneLineOfAText = (version : Version) (one other : ReportLine) → IsLine one → IsLine other → HasVersion version one → HasVersion version other →
    line_text one ≡ line_text other → one ≡ other

-- two lists of lines of one version with one text are one list
abbrev pub OneSheetOfAText : Type 0
OneSheetOfAText = (version : Version) (ones others : List ReportLine) → All IsLine ones → All IsLine others →
    All (HasVersion version) ones → All (HasVersion version) others → text_of_lines ones ≡ text_of_lines others → ones ≡ others
