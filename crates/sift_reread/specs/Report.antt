-- Texts that are reports, and where another text stops to be one.
use Rattle.std.specs.Prelude.{◌≡◌, ◌≢◌, ◌==◌, ◌+◌, ◌++◌, ◌⊎◌, ⊤, max, ℕ, List, [], length}
use Rattle.std.specs.List.{All, before_first, position_or_len}
use Rattle.sift_line.specs.Line.{HasVersion, IsLine, line_text, text_of_lines}
use Rattle.sift_line.specs.declared.line.ReportLine.{ReportLine}
use Rattle.sift_line.specs.declared.line.Version.{Version}
use Rattle.sift_line.specs.declared.line.Version.TheVariants.{One, Two}
use Rattle.sift_reread.specs.declared.reread.Stop.{Stop}
use Rattle.sift_reread.specs.declared.reread.Stop.TheVariants.{NoLine, NoMemory}

-- the byte that ends a line
abbrev pub line_feed : ℕ
line_feed = 10

-- it is a line, each field of which holds what it can, and one of a report of this version
abbrev pub IsLineIn : Version → ReportLine → Type 0
IsLineIn version line = IsLine line × HasVersion version line

-- the text is that of some lines of this version, each with its line feed
abbrev pub IsReportIn : Version → List ℕ → Type 0
IsReportIn version text = (lines : List ReportLine) × All (IsLineIn version) lines × (text_of_lines lines ≡ text)

-- so it is in some version
abbrev pub IsReport : List ℕ → Type 0
IsReport text = (version : Version) × IsReportIn version text

-- the text is no line's of this version
abbrev pub IsNoLine : Version → List ℕ → Type 0
IsNoLine version text = (line : ReportLine) → IsLineIn version line → line_text line ≢ text

-- the text has no line feed, or what stands before its first is no line's
abbrev pub BeginsWithNoLine : Version → List ℕ → Type 0
BeginsWithNoLine version text =
    (position_or_len (λ b. b == line_feed) text ≡ length text) ⊎ IsNoLine version (before_first (λ b. b == line_feed) text)

-- so many lines of this version but one, and behind them something that begins with none
pub record StopsIn (version : Version) (number : ℕ) (text : List ℕ) : Type 0 where
  pub before : List ReportLine
  pub all : All (IsLineIn version) before
  pub rest : List ℕ
  pub split : text_of_lines before ++ rest ≡ text
  pub count : length before + 1 ≡ number
  pub some : rest ≢ []
  pub none : BeginsWithNoLine version rest

-- it stops in either version, and this is the later of the two lines
abbrev pub StopsAt : ℕ → List ℕ → Type 0
StopsAt number text = (one two : ℕ) × StopsIn One one text × StopsIn Two two text × (number ≡ max one two)

-- the text stops to be a report of this version at this line, or memory was wanting
abbrev pub IsStoppedIn : Version → Stop → List ℕ → Type 0
IsStoppedIn version (NoLine number) text = StopsIn version number text
IsStoppedIn version NoMemory text = ⊤

-- the text stops to be a report of either version at this line, or memory was wanting
abbrev pub IsStopped : Stop → List ℕ → Type 0
IsStopped (NoLine number) text = StopsAt number text
IsStopped NoMemory text = ⊤
