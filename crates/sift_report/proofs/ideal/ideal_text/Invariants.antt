use Rattle.std.proofs.Common.{◌≡◌, [], length, string_bytes}
use Rattle.std.specs.List.{flat_map, range_with_len}
use Rattle.sift_program.specs.Ideal.{words_before}
use Rattle.sift_mission.specs.Parts.{data_of, flown_of}
use Rattle.sift_report.specs.Ideal.{sensed_in}
use Rattle.sift_report.proofs.ideal.ideal_text.Given as goal
use Rattle.sift_report.proofs.Tells.{ideal_line}

-- the lines of the frames so far are written, and the machine has run them
abbrev pub invariant-loop-f : goal.invariant-loop-f
invariant-loop-f l =
    (string_bytes l.text ≡ flat_map (ideal_line (data_of l.mission)) (range_with_len 0 l.f))
    × (l.ideal ≡ words_before (data_of l.mission).program (sensed_in (flown_of l.mission)) (λ g. []) l.f)
    × (length l.ideal ≡ (flown_of l.mission).words)
