use Rattle.std.proofs.Common.{[], All}
use Rattle.std.specs.List.{AllZip}
use Rattle.sift_mission.specs.Parts.{flown_of}
use Rattle.sift_unit.specs.Boards.{Drives}
use Rattle.sift_bus.proofs.flying.fly_all.Given as goal

-- each board drives on its own port, and each port follows the one at the start
abbrev pub invariant-loop : goal.invariant-loop
invariant-loop g l = record {
  drives : All (λ flyer. Drives (flown_of l.mission) flyer.seat.board (g.P.Look.view flyer.port)) l.flyers;
  follows : AllZip (λ before after. g.P.Look.follows before.port [] after.port) l.fn.flyers l.flyers;
}
