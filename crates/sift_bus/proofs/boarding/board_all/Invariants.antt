use Rattle.std.proofs.Common.{◌≡◌, ◌+◌, ◌≤◌, ◌++◌, List, length, vec_capacity}
use Rattle.sift_mission.specs.Parts.{flown_of}
use Rattle.sift_ether.specs.declared.seat.Token.{Token}
use Rattle.sift_bus.specs.Boarding.{AreBoarded}
use Rattle.sift_bus.proofs.boarding.board_all.Given as goal

-- the units of the first tokens sit with the first buses
abbrev pub invariant-loop-bus : goal.invariant-loop-bus
invariant-loop-bus g l = record {
  boarded : (taken : List Token) × (taken ++ l.tokens.rest.items ≡ l.fn.tokens.items) × (l.tokens.rest.len + length taken ≡ length l.fn.tokens.items)
      × AreBoarded (flown_of l.mission) l.ether l.faulty taken l.yielded l.flyers.items;
  room : l.mission.units ≤ vec_capacity l.flyers;
  all : l.yielded ++ l.bus-iterator.rest.items ≡ l.fn.buses.items;
}
