-- The lines that are read from a report, or the first that is refused.
use Rattle.std.specs.Prelude.{ℕ, ◌≡◌, ◌≢◌, ◌+◌, ◌⊎◌, List, [], ◌∷◌, ◌++◌, length, map}
use Rattle.std.specs.List.{All}
use Rattle.sift_line.specs.Line.{HasVersion, IsLine, line_text}
use Rattle.sift_line.specs.Texts.{texts_of}
use Rattle.sift_line.specs.declared.line.ReportLine.{ReportLine}
use Rattle.sift_line.specs.declared.line.Version.{Version}

-- ---- a line

-- a line of this version
pub record IsLineOf (version : Version) (line : ReportLine) : Type 0 where
  pub holds : IsLine line
  pub told : HasVersion version line

-- the text is no line's of this version
abbrev pub IsNoLine : Version → List ℕ → Type 0
IsNoLine version text = (line : ReportLine) → IsLineOf version line → line_text line ≢ text

-- the text before these others is refused: no line feed ends it, and it isn't empty; or one does, and it is no line's
abbrev pub IsRefused : Version → (text : List ℕ) → (later : List (List ℕ)) → Type 0
IsRefused version text later = ((later ≡ []) × (text ≢ [])) ⊎ ((later ≢ []) × IsNoLine version text)

-- the first text of the report is refused
abbrev pub BeginsRefused : Version → List ℕ → Type 0
BeginsRefused version report = (text : List ℕ) × (later : List (List ℕ)) × (text ∷ later ≡ texts_of report) × IsRefused version text later

-- ---- all lines

-- the report is that of these lines: each stands there with its line feed, and nothing else
pub record AreRead (version : Version) (report : List ℕ) (lines : List ReportLine) : Type 0 where
  pub all : All (IsLineOf version) lines
  pub texts : map line_text lines ++ [] ∷ [] ≡ texts_of report

-- it is that of these lines alone
pub record AreAllRead (version : Version) (report : List ℕ) (lines : List ReportLine) : Type 0 where
  pub read : AreRead version report lines
  pub only : (others : List ReportLine) → AreRead version report others → others ≡ lines

-- the line of this number, from 1 on, is refused, and each one before it is read
pub record IsFirstRefused (version : Version) (report : List ℕ) (number : ℕ) : Type 0 where
  pub before : List ReportLine
  pub text : List ℕ
  pub later : List (List ℕ)
  pub all : All (IsLineOf version) before
  pub texts : map line_text before ++ text ∷ later ≡ texts_of report
  pub refused : IsRefused version text later
  pub counted : number ≡ length before + 1
