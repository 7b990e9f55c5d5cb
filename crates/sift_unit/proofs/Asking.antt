-- What a board may ask of its port.
use Rattle.std.proofs.Common.{◌≡◌, inl, inr, ◌<◌, true, Some, sym, ap, ◌∙◌, subst, arith}
use Rattle.std.proofs.lemmas.Bool.{cases_lt}
use mathlib.Core.Logic.{dite}
use native.Mathlib.Decide.{ℕ_discrete}
use Rattle.sift_base.specs.Units.{has, unit_limit}
use Rattle.sift_buffer.specs.Conduct.{saying}
use Rattle.sift_buffer.specs.Conduct.{Conduct as Acts}
use Rattle.sift_buffer.specs.Ranges.{Ranges}
use Rattle.sift_buffer.specs.Conditions.{MaySay, MayHear}
use Rattle.sift_mission.specs.Data.{FlownMission}
use Rattle.sift_mission.specs.Slots.{stamp_of}
use Rattle.sift_mission.specs.Fits.{Fits}
use Rattle.sift_mission.specs.laws.Silent.{speaks}
use Rattle.sift_mission.specs.laws.Calls.{call_of}
use Rattle.sift_mission.specs.laws.Frames.{frame_low}
use Rattle.sift_unit.specs.Desk.{Desk}
use Rattle.sift_unit.specs.Going.{Going}
use Rattle.sift_unit.specs.Boards.{IsPortOf}
use Rattle.sift_unit.proofs.Tests.{some_none}
use Rattle.sift_unit.proofs.Hearing.{AtHearing, hear_none}
use Rattle.sift_unit.proofs.Saying.{AtSaying, say_none}
use Rattle.sift_unit.proofs.Exporting.{stamps}

module _ (m : FlownMission) (fit : Fits m) (r : Ranges) (of : IsPortOf m r) (b : Desk) (c : Acts) (g : Going m b c) (flies : b.frame < m.frames) where
  -- it may hear where it stands
  pub may_hear : AtHearing m fit b → MayHear r c b.unit b.other b.slot b.frame (stamp_of m b.cfg b.frame (m.kind b.slot))
  may_hear at =
      let call = call_of m b.cfg (m.kind b.slot) b.other b.unit at.call in
      let apart = fit.timed.apart b.cfg (m.kind b.slot) g.range.config call.slot
      (speaks m b.cfg (m.kind b.slot) b.other b.unit fit.executors g.range.config at.call) in
      let slots = of.slots in let frames = of.frames in let low = at.slot in let sub = at.subframe in let p = g.progress in
      record {
        flies = g.left;
        place = record { cell = record { unit = of.units b.other (g.range.config.inside b.other call.from); other = call.other; slot = omega arith }; frame = omega arith };
        stamp = (omega arith, omega arith);
        frame = hear_none m fit b c g at;
      }

  -- it may say where it stands
  pub may_say : AtSaying m fit b → MaySay r c b.unit b.other b.slot b.frame (stamp_of m b.cfg b.frame (m.kind b.slot))
  may_say at =
      let call = call_of m b.cfg (m.kind b.slot) b.unit b.other at.call in
      let slots = of.slots in let frames = of.frames in let low = at.slot in let sub = at.subframe in let p = g.progress in
      let there = fit.numbered.there b.slot at.slot in
      record {
        flies = g.left;
        place = record {
          cell = record { unit = of.units b.other (g.range.config.inside b.other call.to); other = (λ e. call.other (sym e)); slot = omega arith };
          frame = omega arith;
        };
        stamp = omega arith;
        frame = say_none m fit b c g at;
        fresh = λ f' s' w' had e. dite (ℕ_discrete f' b.frame)
            (λ ef. some_none (sym had ∙ (ap (λ z. c.said z b.slot b.other) ef ∙ say_none m fit b c g at)))
            (λ ne.
            let st = stamps m fit b c g f' (m.kind b.slot) b.other s' w' call.slot (subst (λ z. c.said f' z b.other ≡ Some (saying s' w')) (sym there) had) in
            let s3 = st.0 in let s4 = st.1 in let inside = g.range.subframe in
            elim (cases_lt f' b.frame) [
              | inl lf ↦ let up = frame_low m.period f' b.frame lf in omega arith
              | inr lf ↦ let lf' : b.frame < f' = omega arith in let up = frame_low m.period b.frame f' lf' in omega arith
            ]);
      }

  -- the unit that it hears is one of the mission's
  pub heard_low : AtHearing m fit b → b.other < unit_limit
  heard_low at = fit.counted.units b.other (g.range.config.inside b.other (call_of m b.cfg (m.kind b.slot) b.other b.unit at.call).from)

  -- and so is that to which it says a word
  pub said_low : AtSaying m fit b → b.other < unit_limit
  said_low at = fit.counted.units b.other (g.range.config.inside b.other (call_of m b.cfg (m.kind b.slot) b.unit b.other at.call).to)

  -- the slot that it hears is due within the frame
  pub heard_inside : AtHearing m fit b → m.due b.cfg (m.kind b.slot) < m.period
  heard_inside at =
      let call = call_of m b.cfg (m.kind b.slot) b.other b.unit at.call in
      let apart = fit.timed.apart b.cfg (m.kind b.slot) g.range.config call.slot
      (speaks m b.cfg (m.kind b.slot) b.other b.unit fit.executors g.range.config at.call) in
      let sub = at.subframe in let inside = g.range.subframe in omega arith

  -- and so is that which it says
  pub said_inside : AtSaying m fit b → m.due b.cfg (m.kind b.slot) < m.period
  said_inside at = let sub = at.subframe in let inside = g.range.subframe in omega arith

  -- a unit that says a word is in its configuration
  pub sayer_there : AtSaying m fit b → has b.cfg b.unit ≡ true
  sayer_there at = (call_of m b.cfg (m.kind b.slot) b.unit b.other at.call).from
