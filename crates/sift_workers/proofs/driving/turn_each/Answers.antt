use Rattle.std.proofs.Common.{arith}
use Rattle.std.proofs.lemmas.List.Elements.{All-set}
use Rattle.sift_workers.proofs.Places.{each_itself, each_set, set_below}
use Rattle.sift_workers.proofs.driving.turn_each.Goals as goal

pub loop-pilot-init : goal.loop-pilot-init
loop-pilot-init g c = record {
  drives = c.requires;
  comes = each_itself g.P.Pilot.comes g.met.P.Pilot.comes_itself c.args.hand.now;
  home = λ home i d low. absurd (omega arith);
}

-- one pilot more went
pub loop-pilot-preserved : goal.loop-pilot-preserved
loop-pilot-preserved g c =
    let inv = c.loop-pilot.invariant in let i = c.loop-pilot.pilot-index in let z = c.go_far.new.pilot in
    record {
      drives = All-set g.P.Pilot.drives c.loop-pilot.hand i z c.go_far.ensures.drives inv.drives;
      comes = each_set g.P.Pilot.comes g.met.P.Pilot.comes_on c.args.hand.now c.loop-pilot.hand i c.pilot-item.result z inv.comes
          (let long = c.loop-pilot.auto.hand in let low = c.loop-pilot-test.true in omega arith) c.go_far.ensures.comes;
      home = λ home. set_below g.P.Pilot.is_home c.loop-pilot.hand i z (inv.home (c.and-all.ensures.home home).0)
          (let long = c.loop-pilot.auto.hand in let low = c.loop-pilot-test.true in omega arith)
          (c.go_far.ensures.home (c.and-all.ensures.home home).1);
    }

pub returns : goal.returns
returns g c = let inv = c.loop-pilot.invariant in record {
  drives = inv.drives;
  comes = inv.comes;
  home = λ home k d low. inv.home home k d (let long = c.loop-pilot.auto.hand in let all = c.loop-pilot-test.false in omega arith);
}
