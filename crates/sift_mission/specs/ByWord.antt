-- The task of each word, as a list.
use Rattle.std.specs.Prelude.{◌≡◌, ℕ, suc, List, [], ◌∷◌, ◌++◌, replicate}
use Rattle.sift_base.specs.Layout.{slot_count}
use Rattle.sift_lang.specs.Tree.{TaskTree}
use Rattle.sift_mission.specs.Crews.{AreAllCrews}
use Rattle.sift_mission.specs.Data.{MissionData}
use Rattle.sift_mission.specs.Parts.{AreCompiled, data_of}
use Rattle.sift_mission.specs.PartsFit.{PartsFit}
use Rattle.sift_mission.specs.Timetable.{AreTimetables}
use Rattle.sift_mission.specs.declared.crews.Crews.{Crews}
use Rattle.sift_mission.specs.declared.timetable.Timetable.{Timetable}
use Rattle.sift_mission.specs.declared.mission.MissionParts.{MissionParts}

-- the task of each word of these tasks, the first of which has this number
abbrev pub by_word : ℕ → List TaskTree → List ℕ
by_word t [] = []
by_word t (task ∷ rest) = replicate task.outputs t ++ by_word (suc t) rest

-- the parts fit together, and these are the tasks of their words
pub record KnowsTasks (d : MissionData) (tasks : List ℕ) : Type 0 where
  pub fit : PartsFit d
  pub listed : tasks ≡ by_word 0 d.program.tasks

-- what a mission holds: parts that fit, with the code of their tasks, the count of its slots, the task of each word, the timetables of its tables, and who runs which task
pub record IsHeld (parts : MissionParts) (slots : ℕ) (tasks : List ℕ) (times : List Timetable) (crews : List Crews) : Type 0 where
  pub fit : PartsFit (data_of parts)
  pub compiled : AreCompiled parts
  pub slots_are : slots ≡ slot_count (data_of parts).layout
  pub tasks_are : tasks ≡ by_word 0 (data_of parts).program.tasks
  pub times_are : AreTimetables (data_of parts) times
  pub crews_are : AreAllCrews (data_of parts) crews
