use Rattle.std.proofs.Common.{◌≡◌, ◌++◌, map, take, string_bytes}
use Rattle.sift_mission.specs.Parts.{flown_of}
use Rattle.sift_flight.specs.Told.{told}
use Rattle.std.specs.List.{All}
use Rattle.sift_line.specs.Line.{IsLine, text_of_lines}
use Rattle.sift_report.specs.Sheet.{unit_line}
use Rattle.sift_report.proofs.report.push_frame.Given as goal

-- the lines of the units so far are written, and are lines
abbrev pub invariant-loop-i : goal.invariant-loop-i
invariant-loop-i l =
    (string_bytes l.text ≡ string_bytes l.initial.text
    ++ text_of_lines (map (unit_line (flown_of l.mission) (told (flown_of l.mission) l.flight) l.version l.f) (take l.i l.everyone)))
    × All IsLine (map (unit_line (flown_of l.mission) (told (flown_of l.mission) l.flight) l.version l.f) (take l.i l.everyone))
