-- A line tells the version of its report, unless it names nobody: then it is one of either.
use Rattle.std.specs.Prelude.{◌≡◌, ℕ, false, ⊤}
use Rattle.sift_base.specs.Units.{holds}
use Rattle.sift_line.specs.Bad.{units_in}
use Rattle.sift_line.specs.Line.{HasVersion, IsLine, line_text}
use Rattle.sift_line.specs.declared.line.ReportLine.{ReportLine}
use Rattle.sift_line.specs.declared.line.ReportLine.TheVariants.{Unit as unit, Faulty, Idle, Frame, Last}
use Rattle.sift_line.specs.declared.line.Version.TheVariants.{One, Two}

-- the line names no unit that was caught
abbrev pub NamesNobody : ReportLine → Type 0
NamesNobody (unit f u cfg clk ins outs bad) = (v : ℕ) → holds (units_in bad) v ≡ false
NamesNobody (Faulty f u) = ⊤
NamesNobody (Idle f u) = ⊤
NamesNobody (Frame f skew slack margin) = ⊤
NamesNobody (Last frames cfg margin) = ⊤

-- lines of the two versions that are printed alike name nobody
abbrev pub LinesTellTheirVersion : Type 0
LinesTellTheirVersion = (one two : ReportLine) → IsLine one → IsLine two → HasVersion One one → HasVersion Two two →
    line_text one ≡ line_text two → NamesNobody one × NamesNobody two
