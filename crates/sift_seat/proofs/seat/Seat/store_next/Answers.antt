use Rattle.std.proofs.Common.{ℕ, None, refl, sym, ap, ◌∙◌, subst}
use Rattle.sift_base.specs.declared.slots.Layout.{Layout}
use Rattle.sift_buffer.specs.Ranges.{Ranges, IsCell}
use Rattle.sift_buffer.specs.Tables.{ranges_of}
use Rattle.sift_mission.specs.declared.mission.MissionParts.{MissionParts}
use Rattle.sift_seat.specs.Storms.{CallsNext}
use Rattle.sift_seat.proofs.seat.Seat.store_next.Goals as goal

-- the unit has turned, and the shot's cell is one of the port's
pub stray-requires : goal.stray-requires
stray-requires g c =
    let man = c.requires.manned in
    let v = g.T.Look.view c.args.port.now in
    let here : IsCell (ranges_of c.args.mission.now.layout c.args.mission.now.frames) c.unit-unit.result c.in-Some.shot.to c.in-Some.shot.slot =
    subst (λ (p : MissionParts). IsCell (ranges_of p.layout c.args.mission.now.frames) c.unit-unit.result c.in-Some.shot.to c.in-Some.shot.slot) c.parts.ensures.same
    (c.in-Some.ensures.there c.args.mission.now.frames) in record {
      turned = (man.strays c.requires.calls.0 c.requires.calls.1).turned;
      cell = subst (λ (r : Ranges). IsCell r v.unit c.in-Some.shot.to c.in-Some.shot.slot) (sym man.ranges)
          (subst (λ (u : ℕ). IsCell (ranges_of c.args.mission.now.layout c.args.mission.now.frames) u c.in-Some.shot.to c.in-Some.shot.slot) c.unit-unit.ensures here);
    }

-- where the act comes to nothing, nothing is stored
pub returns-in_default : goal.returns-in_default
returns-in_default g c = record {
  shot = None;
  called = subst (λ (u : ℕ). CallsNext g.R.Rogue.allows c.args.mission.now.layout u c.args.self.now c.args.rogue.now None c.call_next.new.self c.call_next.new.rogue)
      (c.unit-unit.ensures ∙ c.requires.manned.drives.unit)
      (subst (λ (l : Layout). CallsNext g.R.Rogue.allows l c.unit-unit.result c.args.self.now c.args.rogue.now None c.call_next.new.self c.call_next.new.rogue)
      (ap (λ (p : MissionParts). p.layout) c.parts.ensures.same) c.in_default.ensures.called);
  view_is = refl;
  port = g.met.T.Look.follows_itself c.args.port.now;
}
