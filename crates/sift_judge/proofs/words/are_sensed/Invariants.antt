use Rattle.std.proofs.Common.{◌≡◌, ℕ, ◌<◌, slice_index, true}
use Rattle.sift_config.specs.Config.{reader_of}
use Rattle.sift_mission.specs.Flown.{word_sensed}
use Rattle.sift_mission.specs.Parts.{data_of}
use Rattle.sift_report.specs.Told.{works_in}
use Rattle.sift_judge.proofs.words.are_sensed.Given as goal

-- the words of the sensors so far are the mission's, where a working unit reads them
abbrev pub invariant-loop-x : goal.invariant-loop-x
invariant-loop-x l =
    (x : ℕ) → x < l.x → works_in (data_of l.mission) (reader_of l.config x) l.f ≡ true → slice_index l.agreed x ≡ word_sensed (data_of l.mission) x l.f
