use mir.Val.{SFits}
use Rattle.sift_judge.specs.Clocks.{clock_told}
use Rattle.sift_mission.specs.Parts.{data_of}
use Rattle.std.proofs.lemmas.Int.{to_z-of_z}
use Rattle.std.proofs.lemmas.List.{length-map, length-take-le, map_more, take_all}
use Rattle.std.proofs.Common.{◌≡◌, ℤ, List, [], ◌∷◌, ◌++◌, ◌∙◌, rules, length, get_or, take, ap, sym, w64, arith, map}
use Rattle.sift_judge.proofs.words.clocks_of.Goals as goal

pub push-requires : goal.push-requires
push-requires c =
    let count : length c.loop-unit.clocks.items ≡ c.loop-unit.unit-index =
    ap length c.loop-unit.invariant ∙ length-map (take c.loop-unit.unit-index c.args.units.now) (clock_told (data_of c.args.mission.now) c.args.lines.now c.args.f)
    ∙ length-take-le c.loop-unit.unit-index c.args.units.now c.loop-unit.auto.unit-index-end in
    (omega arith, omega (arith, count, c.loop-unit-test.true, c.requires.few))

pub loop-unit-preserved : goal.loop-unit-preserved
loop-unit-preserved c =
    let us = c.args.units.now in
    let i = c.loop-unit.unit-index in
    let u = c.unit-item.result in
    let tells = clock_told (data_of c.args.mission.now) c.args.lines.now c.args.f in
    let fits : SFits w64 c.clock_told.result = search rules in
    c.push.ensures.items
    ∙ ap (λ r. c.loop-unit.clocks.items ++ r ∷ []) (to_z-of_z w64 c.clock_told.result fits ∙ c.clock_told.ensures ∙ ap tells c.unit-item.is)
    ∙ ap (λ (rs : List ℤ). rs ++ tells (get_or us i u) ∷ []) c.loop-unit.invariant
    ∙ sym (map_more tells us i u c.loop-unit-test.true)

pub returns : goal.returns
returns c =
    let us = c.args.units.now in
    c.loop-unit.invariant ∙ ap (map (clock_told (data_of c.args.mission.now) c.args.lines.now c.args.f)) (take_all c.loop-unit.unit-index us c.loop-unit-test.false)
