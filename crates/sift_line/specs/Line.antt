-- The lines of a report, and how each is printed. There is no other grammar: a text is read as a line just where it is the line's.
use Rattle.std.specs.Prelude.{codes, ◌≡◌, ℕ, ◌^◌, ◌<◌, ◌≤◌, List, [], ◌∷◌, ◌++◌, length, IfSome, ⊤}
use Rattle.std.specs.Fmt.{decimal, signed_decimal}
use Rattle.std.specs.Int.{w64}
use Rattle.std.specs.Int.RustNames.{FitsSigned}
use Rattle.std.specs.List.{All, flat_map, join_with_byte}
use Rattle.sift_base.specs.Layout.{sensor_limit, word_limit}
use Rattle.sift_base.specs.Units.{unit_limit}
use Rattle.sift_config.specs.Config.{IsConfig}
use Rattle.sift_line.specs.Bad.{IsBad, caught_text, version_of}
use Rattle.sift_line.specs.Part.{blank, unit_digit, units_text, words_text, text_or_dash, margin_text}
use Rattle.sift_line.specs.declared.line.Version.{Version}
use Rattle.sift_line.specs.declared.line.ReportLine.{ReportLine}
use Rattle.sift_line.specs.declared.line.ReportLine.TheVariants.{Unit as unit, Faulty, Idle, Frame, Last}

-- the fields of a line
abbrev pub fields_of : ReportLine → List (List ℕ)
fields_of (unit f u cfg clk ins outs bad) =
    (codes "f=" ++ decimal f) ∷ (codes "u=" ++ unit_digit u ∷ []) ∷ (codes "cfg=" ++ units_text cfg) ∷ (codes "clk=" ++ signed_decimal clk)
    ∷ (codes "in=" ++ words_text ins.items) ∷ (codes "out=" ++ words_text outs.items) ∷ (codes "bad=" ++ caught_text bad) ∷ []
fields_of (Faulty f u) = (codes "f=" ++ decimal f) ∷ (codes "u=" ++ unit_digit u ∷ []) ∷ codes "faulty" ∷ []
fields_of (Idle f u) = (codes "f=" ++ decimal f) ∷ (codes "u=" ++ unit_digit u ∷ []) ∷ codes "idle" ∷ []
fields_of (Frame f skew slack margin) =
    (codes "f=" ++ decimal f) ∷ (codes "skew=" ++ text_or_dash signed_decimal skew) ∷ (codes "slack=" ++ text_or_dash signed_decimal slack)
    ∷ (codes "margin=" ++ margin_text margin) ∷ []
fields_of (Last frames cfg margin) =
    codes "end" ∷ (codes "frames=" ++ decimal frames) ∷ (codes "cfg=" ++ units_text cfg) ∷ (codes "margin=" ++ margin_text margin) ∷ []

-- a line as it is printed: its fields with blanks between them
abbrev pub line_text : ReportLine → List ℕ
line_text line = join_with_byte blank (fields_of line)

-- a line with its line feed
abbrev pub printed : ReportLine → List ℕ
printed line = line_text line ++ codes "\n"

-- lines as they are printed, each with its line feed
abbrev pub text_of_lines : List ReportLine → List ℕ
text_of_lines lines = flat_map printed lines

-- each field of the line holds what it can: a number of 32 bits, a unit, a configuration, ticks of 64 bits, so many words, units
abbrev pub IsLine : ReportLine → Type 0
IsLine (unit f u cfg clk ins outs bad) =
    (f < 2 ^ 32) × (u < unit_limit) × IsConfig cfg × FitsSigned w64 clk × (All (λ w. w < 2 ^ 16) ins.items × (length ins.items ≤ sensor_limit))
    × (All (λ w. w < 2 ^ 16) outs.items × (length outs.items ≤ word_limit)) × IsBad bad
IsLine (Faulty f u) = (f < 2 ^ 32) × (u < unit_limit)
IsLine (Idle f u) = (f < 2 ^ 32) × (u < unit_limit)
IsLine (Frame f skew slack margin) = (f < 2 ^ 32) × IfSome skew (FitsSigned w64) × IfSome slack (FitsSigned w64)
IsLine (Last frames cfg margin) = (frames < 2 ^ 32) × IsConfig cfg

-- the line is one of a report of this version: only caught units are told in two ways
abbrev pub HasVersion : Version → ReportLine → Type 0
HasVersion version (unit f u cfg clk ins outs bad) = version_of bad ≡ version
HasVersion version (Faulty f u) = ⊤
HasVersion version (Idle f u) = ⊤
HasVersion version (Frame f skew slack margin) = ⊤
HasVersion version (Last frames cfg margin) = ⊤
