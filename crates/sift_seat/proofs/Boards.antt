-- Steps of boards, as their ports show them.
use Rattle.std.proofs.Common.{◌≡◌, ⊎_elim, ℕ, ◌+◌, ◌*◌, ◌<◌, ◌≤◌, Bool, true, false, ap, ◌∙◌, arith, mul_comm}
use Rattle.std.proofs.lemmas.Nat.{mul-le, mul-add-lt}
use Rattle.sift_buffer.specs.Conduct.{Conduct, never}
use Rattle.sift_buffer.specs.Views.{View, KeepsOwn, EntersAfterLooks, Turns, at_once, after_looks}
use Rattle.sift_mission.specs.Data.{FlownMission}
use Rattle.sift_unit.specs.Boards.{desk_of, Drives}
use Rattle.sift_unit.specs.Desk.{Desk}
use Rattle.sift_unit.specs.Keeping.{KeepsAs}
use Rattle.sift_unit.specs.Stepping.{OneCall, Steps, said, heard, entered}
use Rattle.sift_unit.specs.declared.board.Board.{Board}
use Rattle.sift_unit.specs.declared.board.Stepped.{Stepped}
use Rattle.sift_unit.specs.declared.board.Stepped.TheVariants.{Moved, NotYet, Turned, Landed}
use Rattle.sift_seat.specs.laws.Ends.{end_low}

-- ---- the port stays where it is

-- it is of the same unit, and of the same ranges
pub record KeepsPlace (v w : View) : Type 0 where
  pub unit : w.unit ≡ v.unit
  pub ranges : w.ranges ≡ v.ranges

same_place : (v w : View) → w ≡ v → KeepsPlace v w
same_place v w e = record { unit = ap (λ (z : View). z.unit) e; ranges = ap (λ (z : View). z.ranges) e }

further_place : (v w x : View) → KeepsPlace v w → KeepsPlace w x → KeepsPlace v x
further_place v w x a b = record { unit = b.unit ∙ a.unit; ranges = b.ranges ∙ a.ranges }

own_place : (v w : View) → KeepsOwn v w → KeepsPlace v w
own_place v w k = record { unit = k.unit; ranges = k.ranges }

entered_place : (v w : View) → EntersAfterLooks v w → KeepsPlace v w
entered_place v w e = further_place v e.before w (own_place v e.before e.found_none.own)
    (record { unit = ap (λ (z : View). z.unit) e.after; ranges = ap (λ (z : View). z.ranges) e.after })

turned_place : (v w : View) → Turns v w → KeepsPlace v w
turned_place v w (at_once start e) = record { unit = ap (λ (z : View). z.unit) e; ranges = ap (λ (z : View). z.ranges) e }
turned_place v w (after_looks before late none e) = further_place v before w (own_place v before none.own)
    (record { unit = ap (λ (z : View). z.unit) e; ranges = ap (λ (z : View). z.ranges) e })

called_place : (b : Desk) (v : View) (b' : Desk) (v' : View) → OneCall b v b' v' → KeepsPlace v v'
called_place b v b' v' (said k q s w may e subframe frame) = record { unit = ap (λ (z : View). z.unit) e; ranges = ap (λ (z : View). z.ranges) e }
called_place b v b' v' (heard k p s w may e subframe frame) = record { unit = ap (λ (z : View). z.unit) e; ranges = ap (λ (z : View). z.ranges) e }
called_place b v b' v' (entered e) = entered_place v v' e

-- whatever a step comes to, its port stays of the same unit and the same ranges
pub step_place : (m : FlownMission) (b : Desk) (v : View) (r : Stepped) (b' : Desk) (v' : View) (stands : ℕ → ℕ → Type 0) →
    Steps m b v r b' v' stands → KeepsPlace v v'
step_place m b v Moved b' v' stands s = called_place b v b' v' s.call
step_place m b v (NotYet p n) b' v' stands s = own_place v v' s.0.behind.own
step_place m b v Turned b' v' stands s = ⊎_elim (λ same. same_place v v' same.1) (λ turn. turned_place v v' turn.1) s.cause
step_place m b v Landed b' v' stands s = ⊎_elim (λ same. same_place v v' same.1) (λ enters. entered_place v v' enters.1) s.cause

-- ---- numbers

-- the progress of a unit that entered
pub entered_progress : (v w : View) → EntersAfterLooks v w → w.conduct.progress ≡ v.conduct.progress + 1
entered_progress v w e = ap (λ (z : View). z.conduct.progress) e.after ∙ ap (λ (c : Conduct). c.progress + 1) e.found_none.own.conduct

-- a unit that turned left at the progress that it had
pub turned_left : (v w : View) → Turns v w → w.conduct.left ≡ v.conduct.progress
turned_left v w (at_once start e) = ap (λ (z : View). z.conduct.left) e
turned_left v w (after_looks before late none e) = ap (λ (z : View). z.conduct.left) e ∙ ap (λ (c : Conduct). c.progress) none.own.conduct

-- a board whose unit flies is one that is marked so
module _ (m : FlownMission) (b : Board) (v : View) (d : Drives m b v) (flies : v.conduct.left ≡ never) where
  -- where a frame is left, the unit has not come to the end
  pub below_end : b.frame < m.frames → v.conduct.progress < m.frames * m.period
  below_end low = by b.turned d.keeps
    where
      by : (t : Bool) → KeepsAs m t (desk_of b) v.conduct → v.conduct.progress < m.frames * m.period
      by true k = absurd (let most = end_low m d.fits in let up = mul-le b.frame m.period m.frames m.period k.going.range.frame (omega arith) in
          let left = k.left in omega arith)
      by false k = let is = k.going.progress in
          let under = mul-add-lt b.frame m.period b.subframe m.frames low k.going.range.subframe in omega (arith, mul_comm m.period m.frames)

  -- and where none is left, it has
  pub above_end : b.frame ≡ m.frames → m.frames * m.period ≤ v.conduct.progress
  above_end ended = by b.turned d.keeps
    where
      by : (t : Bool) → KeepsAs m t (desk_of b) v.conduct → m.frames * m.period ≤ v.conduct.progress
      by true k = absurd (let most = end_low m d.fits in let up = mul-le b.frame m.period m.frames m.period k.going.range.frame (omega arith) in
          let left = k.left in omega arith)
      by false k = let is = k.going.progress in let e : b.frame * m.period ≡ m.frames * m.period = ap (λ (n : ℕ). n * m.period) ended in omega arith
