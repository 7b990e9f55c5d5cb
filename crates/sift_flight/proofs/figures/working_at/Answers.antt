use Rattle.std.proofs.Common.{◌≡◌, ◌++◌, ◌∷◌, [], ◌∙◌, length, sym, ap, arith}
use Rattle.std.proofs.lemmas.List.Elements.{All-push}
use Rattle.sift_base.specs.laws.Counts.{has_place}
use Rattle.sift_exec.specs.laws.Counted.{filter-yes, filter-no, filter-room}
use Rattle.sift_mission.specs.Parts.{flown_of}
use Rattle.sift_flight.specs.Figures.{Works}
use Rattle.sift_flight.proofs.figures.working_at.Goals.{then-works, else-works}
use Rattle.sift_flight.proofs.figures.working_at.Goals as goal

pub push-requires : goal.push-requires
push-requires c =
    let room = filter-room (λ u. (flown_of c.args.mission.now).works u c.args.f) c.config_at-config.result c.loop-i.i c.unit_at-unit.result c.unit_at-unit.ensures c.len-i-end.ensures.config in
    (omega arith, omega (arith, room, ap length c.loop-i.invariant.0))

pub loop-i-preserved : goal.loop-i-preserved
loop-i-preserved c = elim c.if-works.branch [
  | then-works w ↦
      let yes = sym c.works.ensures ∙ w.if-works.true in
      let unit = c.config_at-config.ensures.units.inside c.unit_at-unit.result (has_place c.config_at-config.result c.loop-i.i c.unit_at-unit.result c.unit_at-unit.ensures) in
      let items : c.if-works.working.items ≡ c.loop-i.working.items ++ c.unit_at-unit.result ∷ [] = rw w.working-is w.push.ensures.items in (
        items ∙ ap (λ us. us ++ c.unit_at-unit.result ∷ []) c.loop-i.invariant.0
            ∙ sym (filter-yes (λ u. (flown_of c.args.mission.now).works u c.args.f) c.config_at-config.result c.loop-i.i c.unit_at-unit.result c.unit_at-unit.ensures yes),
        rw items (All-push (λ u. Works (flown_of c.args.mission.now) u c.args.f) c.loop-i.working.items c.unit_at-unit.result c.loop-i.invariant.1 (record { unit = unit; works = yes })),
      )
  | else-works w ↦
      let no = sym c.works.ensures ∙ w.if-works.false in
      rw w.working-is (
        c.loop-i.invariant.0
            ∙ sym (filter-no (λ u. (flown_of c.args.mission.now).works u c.args.f) c.config_at-config.result c.loop-i.i c.unit_at-unit.result c.unit_at-unit.ensures no),
        c.loop-i.invariant.1,
      )
]
