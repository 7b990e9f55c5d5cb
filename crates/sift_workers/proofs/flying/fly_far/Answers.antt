use Rattle.std.proofs.Common.{List, All, sym, subst, arith}
use Rattle.std.specs.List.{AllZip}
use Rattle.std.proofs.lemmas.List.Elements.{length_all_zip}
use Rattle.sift_workers.proofs.Dealt.{all_dealt, back}
use Rattle.sift_workers.proofs.flying.fly_far.Goals as goal

pub drive_all-requires-after_bounds : goal.drive_all-requires-after_bounds
drive_all-requires-after_bounds g c κs within =
    let d = c.in_ok-hands.ensures in let n = d.count in let P = g.P.Pilot.drives in
    λ k e low. subst (λ (z : List g.row.P.Denot). All P z) (sym (d.each k e (omega arith)))
    (all_dealt P c.args.workers c.count_threads-threads.result k 0 c.args.pilots.items c.requires.drives)

pub collect-requires-clause-dealt : goal.collect-requires-clause-dealt
collect-requires-clause-dealt g c =
    let R = λ (x y : g.row.P.Denot). g.P.Pilot.comes x y × g.P.Pilot.drives y in
    let hands = c.in_ok-hands.hands in let bs = c.in_ok-back.back in
    let b = back R c.args.workers c.count_threads-threads.result c.args.pilots.items hands.items bs.items c.in_ok-flown.flown c.count_threads-threads.ensures.some c.in_ok-hands.ensures
    (omega (arith, c.in_ok-back.ensures.count, hands.ok.0, bs.ok.0)) c.in_ok-back.ensures.each in
    (b.ys, (omega (arith, length_all_zip R c.args.pilots.items b.ys b.zip, c.len-count.ensures, c.args.pilots.ok.0)), b.dealt)

pub returns : goal.returns
returns g c =
    let R = λ (x y : g.row.P.Denot). g.P.Pilot.comes x y × g.P.Pilot.drives y in
    let hands = c.in_ok-hands.hands in let bs = c.in_ok-back.back in
    let b = back R c.args.workers c.count_threads-threads.result c.args.pilots.items hands.items bs.items c.in_ok-flown.flown c.count_threads-threads.ensures.some c.in_ok-hands.ensures
    (omega (arith, c.in_ok-back.ensures.count, hands.ok.0, bs.ok.0)) c.in_ok-back.ensures.each in
    subst (λ (z : List g.row.P.Denot). AllZip R c.args.pilots.items z)
    (sym (c.collect.ensures b.ys (omega (arith, length_all_zip R c.args.pilots.items b.ys b.zip, c.len-count.ensures, c.args.pilots.ok.0)) b.dealt)) b.zip
