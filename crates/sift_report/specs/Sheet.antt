-- The sheet of a flight: the lines of its report.
use Rattle.std.specs.Prelude.{ℕ, ◌-◌, List, [], ◌∷◌, ◌++◌, map, if◌then◌else◌}
use Rattle.std.specs.List.{flat_map, range_with_len}
use Rattle.sift_base.specs.Units.{has}
use Rattle.sift_conduct.specs.Conduct.{Account}
use Rattle.sift_mission.specs.Data.{FlownMission}
use Rattle.sift_flight.specs.Flight.{Flight}
use Rattle.sift_flight.specs.Figures.{config_at, margin_at, next_offsets_at, offsets_at, skew_of, slack_of}
use Rattle.sift_line.specs.Bad.{bad_in}
use Rattle.sift_line.specs.Line.{printed}
use Rattle.sift_line.specs.declared.line.Version.{Version}
use Rattle.sift_line.specs.declared.line.ReportLine.{ReportLine}
use Rattle.sift_line.specs.declared.line.ReportLine.TheVariants.{Unit as unit, Faulty, Idle, Frame, Last}

-- the line of a unit that works in the frame: it tells its account, and is idle where it is outside its own configuration
abbrev pub working_line : Version → ℕ → ℕ → Account → ReportLine
working_line version f u a =
    if has a.cfg u then unit f u a.cfg a.clk (record { items = a.ins }) (record { items = a.outs }) (bad_in version a.bad) else Idle f u

-- the line of a unit in a frame
abbrev pub unit_line : FlownMission → Flight → Version → ℕ → ℕ → ReportLine
unit_line m fl version f u = if m.works u f then working_line version f u (fl.account u f) else Faulty f u

-- what is told of a whole frame: its skew and slack, where a unit of its configuration works, and its margin
abbrev pub frame_line : FlownMission → Flight → ℕ → ReportLine
frame_line m fl f = Frame f (skew_of (offsets_at m fl f)) (slack_of m.length (offsets_at m fl f) (next_offsets_at m fl f)) (margin_at m fl f)

-- the lines of a frame: one for each unit, and one for the whole frame
abbrev pub frame_lines : FlownMission → Flight → Version → ℕ → List ReportLine
frame_lines m fl version f = map (unit_line m fl version f) m.units ++ frame_line m fl f ∷ []

-- the end: how many frames were flown, the configuration after them, and the margin of the last
abbrev pub last_line : FlownMission → Flight → ReportLine
last_line m fl = Last m.frames (config_at m fl m.frames) (margin_at m fl (m.frames - 1))

-- the lines of a flight's report, in this version
abbrev pub sheet_of : FlownMission → Flight → Version → List ReportLine
sheet_of m fl version = flat_map (frame_lines m fl version) (range_with_len 0 m.frames) ++ last_line m fl ∷ []

-- the last line of the report, with its line feed
abbrev pub end_of : FlownMission → Flight → List ℕ
end_of m fl = printed (last_line m fl)
