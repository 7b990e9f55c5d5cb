-- What a board has whose unit is down: it has landed, or turned. And boards drive on whatever their units have strayed.
use Rattle.std.specs.Prelude.{◌≡◌, ◌*◌, ◌≤◌, length, slice_index_or}
use Rattle.sift_buffer.specs.Views.{View, IsButForStrays}
use Rattle.sift_mission.specs.Data.{FlownMission}
use Rattle.sift_conduct.specs.Conduct.{Account}
use Rattle.sift_conduct.specs.Acts.{BoardKeeps}
use Rattle.sift_conduct.specs.Frames.{frames_before}
use Rattle.sift_unit.specs.Boards.{desk_of, Drives}
use Rattle.sift_unit.specs.declared.board.Board.{Board as TheBoard}

-- a board has kept to its conduct in all frames of the mission in which its unit flies, by the accounts that it has: one for each of these
-- frames, and whatever account stands for the others
pub record HasFlownAll (m : FlownMission) (b : TheBoard) (v : View) : Type 0 where
  pub kept : (absent : Account) → BoardKeeps m b.unit v.conduct (λ f. slice_index_or (desk_of b).accounts f absent) m.frames
  pub count : length (desk_of b).accounts ≡ frames_before (m.storm b.unit) m.frames

-- a board that has driven has done so, where its unit is down: its progress is that of the subframe after the last, or more
abbrev pub DownLaw : Type 0
DownLaw = (m : FlownMission) (b : TheBoard) (v : View) → Drives m b v → m.frames * m.period ≤ v.conduct.progress → HasFlownAll m b v

-- a board that drives on a port drives on it whatever strays its unit has stored
abbrev pub StrayLaw : Type 0
StrayLaw = (m : FlownMission) (b : TheBoard) (v v' : View) → Drives m b v → IsButForStrays v v' → Drives m b v'
