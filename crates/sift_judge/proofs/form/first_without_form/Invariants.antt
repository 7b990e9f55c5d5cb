use Rattle.std.proofs.Common.{ℕ, ◌<◌}
use Rattle.sift_mission.specs.Parts.{data_of}
use Rattle.sift_report.specs.Headline.{HasForm}
use Rattle.sift_judge.proofs.form.first_without_form.Given as goal

-- the frames so far have their lines
abbrev pub invariant-loop-f : goal.invariant-loop-f
invariant-loop-f l = (g : ℕ) → g < l.f → HasForm (data_of l.mission) l.lines g
