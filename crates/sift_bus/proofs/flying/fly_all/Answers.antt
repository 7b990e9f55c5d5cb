use Rattle.std.proofs.Common.{[], arith}
use Rattle.std.proofs.lemmas.List.Elements.{All-set}
use Rattle.std.proofs.lemmas.Grind.{common_steps}
use Rattle.sift_mission.specs.Parts.{flown_of}
use Rattle.sift_unit.specs.Boards.{Drives}
use Rattle.sift_bus.proofs.Sides.{side_by_itself, side_set}
use Rattle.sift_bus.proofs.flying.fly_all.Goals as goal

-- each port follows itself
pub loop-init : goal.loop-init
loop-init g c = record {
  drives = c.requires;
  follows = side_by_itself (λ before after. g.P.Look.follows before.port [] after.port) (λ x. g.met.P.Look.follows_itself x.port) c.args.flyers.now;
}

-- the next one has stepped
pub loop-preserved : goal.loop-preserved
loop-preserved g c = record {
  drives = All-set (λ flyer. Drives (flown_of c.args.mission.now) flyer.seat.board (g.P.Look.view flyer.port)) c.loop.flyers c.in-Some.number
      (record { seat = c.step.new.self; port = c.step.new.port }) c.step.ensures.drives c.loop.invariant.drives;
  follows = side_set (λ before after. g.P.Look.follows before.port [] after.port) c.args.flyers.now c.loop.flyers c.in-Some.number
      c.index-flyers-number.result (record { seat = c.step.new.self; port = c.step.new.port }) c.loop.invariant.follows
      c.in-Some.ensures.found.there
      (λ x old. g.met.P.Look.follows_on x.port _ c.step.new.port [] [] old c.step.ensures.follows);
}

pub offset_bounds-flyers-number : goal.offset_bounds-flyers-number
offset_bounds-flyers-number g c = grind (arith, common_steps)

pub returns-clause-down : goal.returns-clause-down
returns-clause-down g c = grind (arith, common_steps)
