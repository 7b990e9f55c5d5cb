use Rattle.std.proofs.Common.{◌≡◌, string_bytes}
use Rattle.std.specs.List.{All, flat_map, range_with_len}
use Rattle.sift_mission.specs.Parts.{flown_of}
use Rattle.sift_flight.specs.Figures.{margin_before}
use Rattle.sift_flight.specs.Told.{told}
use Rattle.sift_line.specs.Line.{IsLine, text_of_lines}
use Rattle.sift_report.specs.Sheet.{frame_lines}
use Rattle.sift_report.proofs.report.report_text.Given as goal

-- the lines of the frames so far are written, and are lines; and the margin is that of all of them
abbrev pub invariant-loop-f : goal.invariant-loop-f
invariant-loop-f l =
    (string_bytes l.text ≡ text_of_lines (flat_map (frame_lines (flown_of l.mission) (told (flown_of l.mission) l.flight) l.version) (range_with_len 0 l.f)))
    × (l.margin ≡ margin_before (flown_of l.mission) (told (flown_of l.mission) l.flight) l.f)
    × All IsLine (flat_map (frame_lines (flown_of l.mission) (told (flown_of l.mission) l.flight) l.version) (range_with_len 0 l.f))
