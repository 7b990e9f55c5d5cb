use Rattle.std.proofs.Common.{◌≡◌, ◌∙◌, ◌++◌, ◌∷◌, [], length, map, sym, ap, arith}
use Rattle.std.specs.List.{range_with_len}
use Rattle.std.proofs.lemmas.List.FromFn.{length-map-range_with_len, map-range_with_len_more}
use Rattle.sift_mission.specs.Parts.{flown_of}
use Rattle.sift_report.proofs.ideal.sensed_in.Goals as goal

pub push-requires : goal.push-requires
push-requires c =
    let fit = c.parts.ensures.fit in
    let same : c.parts.result.now.layout.sensors ≡ c.args.mission.now.layout.sensors = ap (λ parts. parts.layout.sensors) c.parts.ensures.same in
    let few = fit.limits.few_sensors in
    let many = fit.layout.sensors in
    let count = length-map-range_with_len (λ x. (flown_of c.args.mission.now).sensed x c.args.f) 0 c.loop-x.x in
    (omega arith, omega (arith, ap length c.loop-x.invariant))

pub loop-x-preserved : goal.loop-x-preserved
loop-x-preserved c =
    c.push.ensures.items ∙ ap (λ ws. ws ++ c.sensed.result ∷ []) c.loop-x.invariant
    ∙ ap (λ word. map (λ x. (flown_of c.args.mission.now).sensed x c.args.f) (range_with_len 0 c.loop-x.x) ++ word ∷ []) c.sensed.ensures
    ∙ sym (map-range_with_len_more (λ x. (flown_of c.args.mission.now).sensed x c.args.f) 0 c.loop-x.x c.loop-x.x (omega arith))
