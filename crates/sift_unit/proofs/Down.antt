-- A board whose unit is down has flown all that it flies.
use Rattle.std.proofs.Common.{◌≡◌, ◌⊎◌, inl, inr, ⊎_elim, ℕ, ◌*◌, ◌<◌, ◌≤◌, length, slice_index_or, Bool, true, false, Option, Some, None, refl, sym, ap, ◌∙◌, subst, arith}
use Rattle.std.proofs.Math.Nat.{min-eq_left}
use mathlib.Core.Logic.{dite}
use native.Mathlib.Decide.{ℕ_discrete}
use Rattle.sift_buffer.specs.Conduct.{Conduct as Acts}
use Rattle.sift_buffer.specs.Views.{View}
use Rattle.sift_mission.specs.Data.{FlownMission}
use Rattle.sift_mission.specs.Slots.{StormsCome, turned_by}
use Rattle.sift_mission.specs.laws.Turning.{before_turning}
use Rattle.sift_mission.specs.laws.Frames.{frame_low}
use Rattle.sift_conduct.specs.Conduct.{Account}
use Rattle.sift_conduct.specs.Acts.{BoardKeeps}
use Rattle.sift_conduct.specs.Frames.{Flies, frames_before}
use Rattle.sift_unit.specs.Boards.{desk_of, Drives}
use Rattle.sift_unit.specs.Desk.{Desk, accounts_of}
use Rattle.sift_unit.specs.Down.{DownLaw}
use Rattle.sift_unit.specs.Going.{InRange}
use Rattle.sift_unit.specs.Keeping.{KeepsAs, Flying, Turned, HasFlown}
use Rattle.sift_unit.specs.declared.board.Board.{Board as TheBoard}
use Rattle.sift_unit.proofs.Flown.{drive_law}
use Rattle.sift_unit.proofs.FrameLists.{keeps_by}
use Rattle.sift_unit.proofs.Marks.{range_as}
use Rattle.sift_unit.proofs.Standing.{stands}

-- a board that flies at the end of the mission has no storm
calm_at_end : (m : FlownMission) (b : Desk) (c : Acts) → Flying m b c → StormsCome m → b.frame ≡ m.frames → (o : Option ℕ) → m.storm b.unit ≡ o → o ≡ None
calm_at_end m b c k come ended None is = refl
calm_at_end m b c k come ended (Some from) is =
    let low = come b.unit from is in
    absurd (⊎_elim (λ early. omega arith) (λ first. let zero = first.0 in omega arith) (k.before from is))

-- a board whose unit is down has ended all frames and has no storm, or it has turned
abbrev HasSettled : FlownMission → Desk → Acts → Type 0
HasSettled m b c = ((b.frame ≡ m.frames) × (m.storm b.unit ≡ None)) ⊎ Turned m b c

settled : (m : FlownMission) (t : Bool) (b : Desk) (c : Acts) → KeepsAs m t b c → StormsCome m → m.frames * m.period ≤ c.progress → HasSettled m b c
settled m true b c k come down = inr k
settled m false b c k come down =
    let range = k.going.range in let most = range.frame in let inside = range.subframe in let is = k.going.progress in
    let ended : b.frame ≡ m.frames = dite (ℕ_discrete b.frame m.frames) (λ e. e)
    (λ ne. absurd (let up = frame_low m.period b.frame m.frames (omega arith) in omega arith)) in
    inl (ended, calm_at_end m b c k come ended (m.storm b.unit) refl)

module _ (m : FlownMission) (b : TheBoard) (v : View) (d : Drives m b v) (down : m.frames * m.period ≤ v.conduct.progress) where
  range : InRange m (desk_of b)
  range = range_as m b.turned (desk_of b) v.conduct d.keeps

  at_end : HasSettled m (desk_of b) v.conduct
  at_end = settled m b.turned (desk_of b) v.conduct d.keeps d.storms down

  flown : HasFlown m (desk_of b) v.conduct m.frames
  flown = ⊎_elim (λ ended. inl (let e = ended.0 in omega arith)) (λ t. inr t) at_end

  -- a frame in which its unit flies is one of those that it has ended
  under : (f : ℕ) → f < m.frames → Flies m b.unit f → f < b.frame
  under f low flies = ⊎_elim (λ ended. let e = ended.0 in omega arith)
      (λ (t : Turned m (desk_of b) v.conduct). before_turning f b.frame (subst (λ (o : Option ℕ). turned_by o f ≡ false) t.storm flies.whole)) at_end

  kept_all : (absent : Account) → BoardKeeps m b.unit v.conduct (λ f. slice_index_or (desk_of b).accounts f absent) m.frames
  kept_all absent = keeps_by m b.unit v.conduct (accounts_of m (desk_of b)) (λ f. slice_index_or (desk_of b).accounts f absent) m.frames
      (λ f low flies. (stands m (desk_of b) v.conduct range).accounts f absent (under f low flies))
      ((drive_law m b v d).ended m.frames flown)

  -- there are as many accounts as frames before its unit's storm
  count_all : length (desk_of b).accounts ≡ frames_before (m.storm b.unit) m.frames
  count_all = range.count ∙ ⊎_elim (λ ended. ended.0 ∙ sym (ap (λ (o : Option ℕ). frames_before o m.frames) ended.1))
      (λ (t : Turned m (desk_of b) v.conduct). sym (ap (λ (o : Option ℕ). frames_before o m.frames) t.storm ∙ min-eq_left range.frame)) at_end

-- a board that has driven, and whose unit is down, has kept to its conduct in each frame in which its unit flies, and has an account of each
pub down_law : DownLaw
down_law m b v d down = record { kept = kept_all m b v d down; count = count_all m b v d down }
