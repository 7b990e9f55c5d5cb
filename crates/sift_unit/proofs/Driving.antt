-- A board on its port, call by call.
use Rattle.std.proofs.Common.{◌≡◌, inl, inr, ℕ, ◌+◌, ◌*◌, ◌<◌, true, false, Option, Some, refl, sym, ap, ◌∙◌, subst, arith}
use Rattle.std.specs.Prelude.{slice_set}
use Rattle.sift_base.specs.Units.{has, unit_limit}
use Rattle.sift_buffer.specs.Conduct.{Conduct as Acts}
use Rattle.sift_buffer.specs.Conditions.{MaySay, MayHear, MayEnter}
use Rattle.sift_buffer.specs.Views.{View, view_with_said, view_with_heard, view_with_entered, view_with_turned, KeepsOwn, EntersAfterLooks, Turns, at_once, after_looks}
use Rattle.sift_mission.specs.Data.{FlownMission}
use Rattle.sift_mission.specs.Fits.{Fits}
use Rattle.sift_unit_frame.specs.Tidings.{word_to}
use Rattle.sift_unit_frame.specs.Conditions.{IsSlotOfFrame, IsShaped}
use Rattle.sift_unit_frame.specs.Memories.{memory_of}
use Rattle.sift_unit.specs.Desk.{Desk, is_hearing, is_saying}
use Rattle.sift_unit.specs.Going.{Going}
use Rattle.sift_unit.specs.Passing.{Passes}
use Rattle.sift_unit.specs.Stepping.{HasMoved, said, heard}
use Rattle.sift_unit.specs.Keeping.{Flying, Turned, KeepsAs, IsEarly}
use Rattle.sift_unit.specs.Conditions.{IsInFlight, MayWalk}
use Rattle.sift_unit.specs.Boards.{desk_of, IsPortOf, Drives, IsSameBoard, IsMarked, GoesOn, TurnsNext, BeginsNext}
use Rattle.sift_unit.specs.declared.board.Board.{Board as TheBoard}
use Rattle.sift_unit.proofs.Hearing.{hearing_is, hear_going}
use Rattle.sift_unit.proofs.Saying.{saying_is, say_going}
use Rattle.sift_unit.proofs.Asking.{may_hear, may_say, heard_low, said_low, heard_inside, said_inside, sayer_there}
use Rattle.sift_unit.proofs.Starting.{turned_on, turn_first_law}
use Rattle.sift_unit.proofs.Marks.{flying_as, FliesOn, early_flies, is_early, early_same, early_on, early_before, below_last}

-- what a unit has seen is nothing that its board knows of
seen_going : (m : FlownMission) (b : Desk) (c : Acts) (s : ℕ → ℕ) → Going m b c → Going m b (record c { seen = s })
seen_going m b c s g = record {
  range = g.range;
  progress = g.progress;
  left = g.left;
  meets = λ a h fate.
      let mt = g.meets a h (record { heard = fate.heard; accounts = fate.accounts; cfg = fate.cfg; clk = fate.clk; agrees = fate.agrees }) in
      record {
        acts = record { said = mt.acts.said; heard = mt.acts.heard };
        ended = mt.ended;
        begins = mt.begins;
        last = mt.last;
        places = mt.places;
        remembers = mt.remembers;
      };
}

-- a round of looks leaves what holds of a board
looks_going : (m : FlownMission) (b : Desk) (v v' : View) → KeepsOwn v v' → Going m b v.conduct → Going m b v'.conduct
looks_going m b v v' own g = subst (λ c. Going m b c) (sym own.conduct) (seen_going m b v.conduct v'.conduct.seen g)

-- what a unit was before it turned, but for what it had seen
pub record TurnsFrom (v v' : View) : Type 0 where
  pub before : View
  pub own : KeepsOwn v before
  pub after : v' ≡ view_with_turned before

turns_from : (v v' : View) → Turns v v' → TurnsFrom v v'
turns_from v v' (at_once start e) = record { before = v; own = record { ranges = refl; unit = refl; conduct = refl; looks = omega arith }; after = e }
turns_from v v' (after_looks before low none e) = record { before = before; own = none.own; after = e }

-- a board is the same as itself
same_itself : (b : TheBoard) → IsSameBoard b b
same_itself b = record { unit = refl; frames = refl; storm = refl; turned = refl }

-- a board drives further on that keeps to its conduct there, with whatever mark
drives_on : (m : FlownMission) (b b' : TheBoard) (v v' : View) → Drives m b v → b'.unit ≡ b.unit → b'.frames ≡ b.frames → b'.storm ≡ b.storm →
    v'.unit ≡ v.unit → v'.ranges ≡ v.ranges → KeepsAs m b'.turned (desk_of b') v'.conduct → Drives m b' v'
drives_on m b b' v v' d unit frames storm same_unit same_ranges keeps = record {
  fits = d.fits;
  storms = d.storms;
  unit = same_unit ∙ d.unit ∙ sym unit;
  ranges = subst (λ r. IsPortOf m r) (sym same_ranges) d.ranges;
  frames = frames ∙ d.frames;
  storm = storm ∙ d.storm ∙ ap m.storm (sym unit);
  keeps = keeps;
}

-- a board that is marked has turned as it would have
marked_as : (m : FlownMission) (b b' : TheBoard) (c : Acts) → IsMarked b b' → Turned m (desk_of b) c → KeepsAs m b'.turned (desk_of b') c
marked_as m b b' c marked k = subst (λ t. KeepsAs m t (desk_of b') c) (sym marked.turned) (subst (λ z. Turned m z c) (sym marked.desk) k)

module _ (m : FlownMission) (b : TheBoard) (v : View) (d : Drives m b v) (early : IsEarly m (desk_of b)) where
  -- a board before its storm flies
  pub flies_here : FliesOn m b.turned (desk_of b) v.conduct
  flies_here = early_flies m b.turned (desk_of b) v.conduct d.keeps early

  -- it may try to enter
  pub may_enter_at : b.frame < m.frames → MayEnter v.conduct
  may_enter_at low = record { flies = flies_here.going.left; below = below_last m d.fits (desk_of b) v.conduct flies_here.going low }

  -- what flies on before its storm drives on
  flies_on : (b' : TheBoard) (v' : View) → IsSameBoard b b' → IsEarly m (desk_of b') → v'.unit ≡ v.unit → v'.ranges ≡ v.ranges →
      Going m (desk_of b') v'.conduct → Drives m b' v'
  flies_on b' v' same early' unit ranges going = drives_on m b b' v v' d same.unit same.frames same.storm unit ranges
      (flying_as m b'.turned (desk_of b') v'.conduct (same.turned ∙ flies_here.mark) (record { before = λ from storm. inl (early' from storm); going = going }))

  -- a round of looks leaves it what it was
  pub looks_drive : (v' : View) → KeepsOwn v v' → Drives m b v'
  looks_drive v' own = flies_on b v' (same_itself b) early own.unit own.ranges (looks_going m (desk_of b) v v' own flies_here.going)

  -- a board that has passed places of a frame of the flight is in flight
  pass_flight : (b.frame ≡ m.frames → ⊥) → (b' : TheBoard) → Passes m (desk_of b) (desk_of b') → IsSameBoard b b' → IsInFlight m b' v
  pass_flight more b' p same = let still = early_same m (desk_of b) (desk_of b') p.unit p.frame early in record {
    drives = flies_on b' v same still refl refl (p.going v.conduct flies_here.going);
    early = still;
    frame = (let most = flies_here.going.range.frame in let is = p.frame in let ne = more in omega arith);
  }

  -- where it does not turn next, it is before its storm in the next subframe
  pub early_there : (b' : TheBoard) → GoesOn m b b' → (TurnsNext m b → ⊥) → IsEarly m (desk_of b')
  early_there b' on flies = early_on m (desk_of b) (desk_of b') on.same.unit early (λ last storm. flies (last, d.storm ∙ storm)) on.frame

  -- so one that goes on after a round of looks has entered it
  pub enter_drives : (b' : TheBoard) (v' : View) → GoesOn m b b' → (TurnsNext m b → ⊥) → EntersAfterLooks v v' → Drives m b' v'
  enter_drives b' v' on flies e =
      let own = e.found_none.own in
      subst (λ z. Drives m b' z) (sym e.after) (flies_on b' (view_with_entered e.before) on.same (early_there b' on flies) own.unit own.ranges
      (on.going e.before.conduct (looks_going m (desk_of b) v e.before own flies_here.going)))

  -- and one that turns in its place has turned
  pub turn_keeps : (b' : TheBoard) (v' : View) → GoesOn m b b' → BeginsNext b b' → TurnsNext m b → Turns v v' → Turned m (desk_of b') v'.conduct
  turn_keeps b' v' on begins next turns =
      let t = turns_from v v' turns in
      let g = looks_going m (desk_of b) v t.before t.own flies_here.going in
      let from : m.storm b'.unit ≡ Some b'.frame = ap m.storm on.same.unit ∙ sym d.storm ∙ next.1 ∙ ap Some (sym begins.0) in
      subst (λ (z : View). Turned m (desk_of b') z.conduct) (sym t.after)
      (turned_on m (desk_of b') t.before.conduct g.left (on.going t.before.conduct g) from begins.1)

  -- a board whose unit turns in place of the next frame drives on, once it is marked as turned
  pub turn_drives : (b' b'' : TheBoard) (v' : View) → GoesOn m b b' → BeginsNext b b' → IsMarked b' b'' → TurnsNext m b → Turns v v' → Drives m b'' v'
  turn_drives b' b'' v' on begins marked next turns =
      let t = turns_from v v' turns in
      drives_on m b b'' v v' d (ap (λ (z : Desk). z.unit) marked.desk ∙ on.same.unit) (marked.frames ∙ on.same.frames) (marked.storm ∙ on.same.storm)
      (ap (λ (z : View). z.unit) t.after ∙ t.own.unit) (ap (λ (z : View). z.ranges) t.after ∙ t.own.ranges)
      (marked_as m b' b'' v'.conduct marked (turn_keeps b' v' on begins next turns))

-- a board whose frame is not the first of its storm is before it
pub early_at : (m : FlownMission) (b : TheBoard) (v : View) → Drives m b v → (b.storm ≡ Some b.frame → ⊥) → IsEarly m (desk_of b)
early_at m b v d other = is_early m b.turned (desk_of b) v.conduct d.keeps (λ storm. other (d.storm ∙ storm))

-- one that stands in that frame, and has not turned, stood before anything else, so it drives on once it has turned
pub once_drives : (m : FlownMission) (b b' : TheBoard) (v v' : View) → Drives m b v → b.turned ≡ false → b.storm ≡ Some b.frame → IsMarked b b' → Turns v v' →
    Drives m b' v'
once_drives m b b' v v' d mark storm marked turns =
    let k : Flying m (desk_of b) v.conduct = subst (λ t. KeepsAs m t (desk_of b) v.conduct) mark d.keeps in
    let mine : m.storm b.unit ≡ Some b.frame = sym d.storm ∙ storm in
    let t = turns_from v v' turns in
    elim (k.before b.frame mine) [
      | inl low ↦ absurd (omega arith)
      | inr z ↦ drives_on m b b' v v' d (ap (λ (x : Desk). x.unit) marked.desk) marked.frames marked.storm
          (ap (λ (x : View). x.unit) t.after ∙ t.own.unit) (ap (λ (x : View). x.ranges) t.after ∙ t.own.ranges)
          (marked_as m b b' v'.conduct marked (subst (λ (x : View). Turned m (desk_of b) x.conduct) (sym t.after)
          (turn_first_law m (desk_of b) t.before.conduct (looks_going m (desk_of b) v t.before t.own k.going) (mine ∙ ap Some z.0) z.1 z.2)))
    ]

-- so it may walk
pub walks_here : (m : FlownMission) (b : TheBoard) (v : View) → Drives m b v → (b.storm ≡ Some b.frame → ⊥) → MayWalk m (desk_of b)
walks_here m b v d other = record { fits = d.fits; range = (flies_here m b v d (early_at m b v d other)).going.range }

-- so it is in flight, before the end, and where it passes places
pub in_flight : (m : FlownMission) (b : TheBoard) (v : View) → Drives m b v → (b.storm ≡ Some b.frame → ⊥) → (b.frame ≡ m.frames → ⊥) →
    (b' : TheBoard) → Passes m (desk_of b) (desk_of b') → IsSameBoard b b' → IsInFlight m b' v
in_flight m b v d other = pass_flight m b v d (early_at m b v d other)

-- a board whose unit turns next is before its storm
pub early_next : (m : FlownMission) (b : TheBoard) (v : View) → Drives m b v → TurnsNext m b → IsEarly m (desk_of b)
early_next m b v d next = early_before m (desk_of b) (sym d.storm ∙ next.1)

-- and a frame is left
pub room_next : (m : FlownMission) (b : TheBoard) (v : View) → Drives m b v → TurnsNext m b → b.frame < m.frames
room_next m b v d next = let come = d.storms b.unit (b.frame + 1) (sym d.storm ∙ next.1) in omega arith

module _ (m : FlownMission) (b : TheBoard) (v : View) (flight : IsInFlight m b v) where
  -- its mission fits
  abbrev fit : Fits m
  fit = flight.drives.fits

  -- the board flies
  going_here : Going m (desk_of b) v.conduct
  going_here = (flies_here m b v flight.drives flight.early).going

  -- the stamp of the slot at which the board stands
  abbrev pub stamp_here : ℕ
  stamp_here = b.frame * m.period + m.due b.cfg (m.kind b.slot) + 1

  -- a slot of a frame at which it stands
  slot_here : b.slot < m.slots → IsSlotOfFrame m b.cfg b.frame b.slot
  slot_here low = record { fits = fit; slot = record { config = going_here.range.config; slot = low }; frame = flight.frame }

  -- it stands at one where it hears, which is due within the frame
  pub hear_slot : is_hearing m (desk_of b) ≡ true → IsSlotOfFrame m b.cfg b.frame b.slot
  hear_slot e = slot_here (hearing_is m fit (desk_of b) e).slot

  -- what it hears is said before the frame ends
  pub hear_inside : is_hearing m (desk_of b) ≡ true → m.due b.cfg (m.kind b.slot) < m.period
  hear_inside e = heard_inside m fit v.ranges flight.drives.ranges (desk_of b) v.conduct going_here flight.frame (hearing_is m fit (desk_of b) e)

  -- from one of the mission's units
  pub hear_low : is_hearing m (desk_of b) ≡ true → b.other < unit_limit
  hear_low e = heard_low m fit v.ranges flight.drives.ranges (desk_of b) v.conduct going_here flight.frame (hearing_is m fit (desk_of b) e)

  -- and where it says
  pub say_slot : is_saying m (desk_of b) ≡ true → IsSlotOfFrame m b.cfg b.frame b.slot
  say_slot e = slot_here (saying_is m fit (desk_of b) e).slot

  -- and what it says is due before the frame ends
  pub say_inside : is_saying m (desk_of b) ≡ true → m.due b.cfg (m.kind b.slot) < m.period
  say_inside e = said_inside m fit v.ranges flight.drives.ranges (desk_of b) v.conduct going_here flight.frame (saying_is m fit (desk_of b) e)

  -- to one of the units that may be
  pub say_low : is_saying m (desk_of b) ≡ true → b.other < unit_limit
  say_low e = said_low m fit v.ranges flight.drives.ranges (desk_of b) v.conduct going_here flight.frame (saying_is m fit (desk_of b) e)

  -- its unit is in its configuration there, and its memory in shape
  pub say_member : is_saying m (desk_of b) ≡ true → has b.cfg b.unit ≡ true
  say_member e = sayer_there m fit v.ranges flight.drives.ranges (desk_of b) v.conduct going_here flight.frame (saying_is m fit (desk_of b) e)

  -- its memory has the shape of its frame
  pub shape_here : IsShaped m b.cfg b.unit (memory_of b.memory)
  shape_here = going_here.range.shape

  -- it may hear there
  pub may_hear_at : is_hearing m (desk_of b) ≡ true → (p s : ℕ) → p ≡ b.other → s ≡ stamp_here → MayHear v.ranges v.conduct v.unit p b.slot b.frame s
  may_hear_at e p s ep es = rw (flight.drives.unit, ep, es) (may_hear m fit v.ranges flight.drives.ranges (desk_of b) v.conduct going_here flight.frame (hearing_is m fit (desk_of b) e))

  -- it may say there
  pub may_say_at : is_saying m (desk_of b) ≡ true → (q s : ℕ) → q ≡ b.other → s ≡ stamp_here → MaySay v.ranges v.conduct v.unit q b.slot b.frame s
  may_say_at e q s eq es = rw (flight.drives.unit, eq, es) (may_say m fit v.ranges flight.drives.ranges (desk_of b) v.conduct going_here flight.frame (saying_is m fit (desk_of b) e))

  -- the board that has heard a word
  abbrev pub heard_desk : ℕ → Option ℕ → Desk
  heard_desk i w = record (desk_of b) { other = b.other + 1; places = slice_set b.places i w }

  -- the board that has said one
  abbrev pub said_desk : Desk
  said_desk = record (desk_of b) { other = b.other + 1 }

  -- it drives on
  pub hear_drives : is_hearing m (desk_of b) ≡ true → (b' : TheBoard) (i p s : ℕ) (w : Option ℕ) (v' : View) → IsSameBoard b b' → desk_of b' ≡ heard_desk i w →
      i ≡ b.other → p ≡ b.other → s ≡ stamp_here → v' ≡ view_with_heard v b.frame b.slot p s w → Drives m b' v'
  hear_drives e b' i p s w v' same desk ei ep es ev = subst (λ z. Drives m b' z) (sym ev)
      (flies_on m b v flight.drives flight.early b' (view_with_heard v b.frame b.slot p s w) same (subst (λ z. IsEarly m z) (sym desk) flight.early) refl refl
      (subst (λ z. Going m z (view_with_heard v b.frame b.slot p s w).conduct) (sym desk)
      (rw (ei, ep) (hear_going m fit (desk_of b) v.conduct s w going_here (hearing_is m fit (desk_of b) e) es))))

  -- a board that has said its word to a unit drives on, at the next unit
  pub say_drives : is_saying m (desk_of b) ≡ true → (b' : TheBoard) (q s : ℕ) (w : Option ℕ) (v' : View) → IsSameBoard b b' → desk_of b' ≡ said_desk →
      q ≡ b.other → s ≡ stamp_here → w ≡ word_to m b.cfg b.unit b.frame b.clk (desk_of b).memory (m.kind b.slot) q → v' ≡ view_with_said v b.frame b.slot q s w →
      Drives m b' v'
  say_drives e b' q s w v' same desk eq es ew ev = subst (λ z. Drives m b' z) (sym ev)
      (flies_on m b v flight.drives flight.early b' (view_with_said v b.frame b.slot q s w) same (subst (λ z. IsEarly m z) (sym desk) flight.early) refl refl
      (subst (λ z. Going m z (view_with_said v b.frame b.slot q s w).conduct) (sym desk)
      (rw eq (say_going m fit (desk_of b) v.conduct s w going_here (saying_is m fit (desk_of b) e) es
      (subst (λ z. w ≡ word_to m b.cfg b.unit b.frame b.clk (desk_of b).memory (m.kind b.slot) z) eq ew)))))

  -- and has moved
  pub hear_moves : is_hearing m (desk_of b) ≡ true → (i p s : ℕ) (w : Option ℕ) (v' : View) → p ≡ b.other → s ≡ stamp_here →
      v' ≡ view_with_heard v b.frame b.slot p s w → HasMoved m (desk_of b) v (heard_desk i w) v'
  hear_moves e i p s w v' ep es ev =
      let at = hearing_is m fit (desk_of b) e in let r = going_here.range in let few = fit.numbered.few in let part = at.part in let slot = at.slot in let other = r.other in
      record {
        call = heard b.slot p s w (may_hear_at e p s ep es) ev refl refl;
        unfinished = flight.frame;
        nearer = omega arith;
        flies = ap (λ (z : View). z.conduct.left) ev ∙ going_here.left;
      }

  -- a board that has said its word to a unit has moved on by that one call
  pub say_moves : is_saying m (desk_of b) ≡ true → (q s : ℕ) (w : Option ℕ) (v' : View) → q ≡ b.other → s ≡ stamp_here →
      v' ≡ view_with_said v b.frame b.slot q s w → HasMoved m (desk_of b) v said_desk v'
  say_moves e q s w v' eq es ev =
      let at = saying_is m fit (desk_of b) e in let r = going_here.range in let few = fit.numbered.few in let part = at.part in let slot = at.slot in let other = r.other in
      record {
        call = said b.slot q s w (may_say_at e q s eq es) ev refl refl;
        unfinished = flight.frame;
        nearer = omega arith;
        flies = ap (λ (z : View). z.conduct.left) ev ∙ going_here.left;
      }
