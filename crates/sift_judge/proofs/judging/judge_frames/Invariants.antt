use Rattle.std.proofs.Common.{◌≡◌, true}
use Rattle.std.specs.Prelude.{◌↔◌}
use Rattle.sift_mission.specs.Parts.{data_of}
use Rattle.sift_report.specs.Told.{HadMarginTold}
use Rattle.sift_judge.specs.Turns.{KeepsBefore, RunsBefore}
use Rattle.sift_judge.proofs.judging.judge_frames.Given as goal

-- the flag tells whether each frame so far has margin, the ideal machine has run them while they had, and each frame so far keeps its rules
abbrev pub invariant-loop-frame : goal.invariant-loop-frame
invariant-loop-frame l =
    ((l.had_margin ≡ true) ↔ HadMarginTold (data_of l.mission) l.lines l.frame)
    × RunsBefore (data_of l.mission) l.lines l.frame l.had_margin l.ideal
    × KeepsBefore (data_of l.mission) l.lines l.frame
