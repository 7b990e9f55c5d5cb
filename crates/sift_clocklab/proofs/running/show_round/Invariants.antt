use Rattle.std.proofs.Common.{◌≡◌, ◌+◌, ◌-◌, ◌*◌, ◌≤◌, ◌++◌, vec_len, vec_capacity}
use Rattle.std.specs.List.{flat_map, range_with_len}
use Rattle.sift_clocklab.specs.Laboratory.{faulty_clocks, laboratory_of, working_of}
use Rattle.sift_clocklab.specs.Showing.{ShowsInTurn, pairs_to}
use Rattle.sift_clocklab.proofs.running.show_round.Given as goal

-- the clocks before this one were shown something by each faulty one, and this one by those before
abbrev pub invariant-loop-clock : goal.invariant-loop-clock
invariant-loop-clock g l =
    let lab = laboratory_of l.lab in record {
      shown : ShowsInTurn g.F.Face.allows l.round l.fn.face (flat_map (pairs_to (faulty_clocks lab)) (range_with_len 0 l.to)
          ++ pairs_to (range_with_len (working_of lab) (l.clock - working_of lab)) l.to) l.shown.items l.face;
      each : vec_len l.shown ≡ l.to * lab.m + (l.clock - working_of lab);
      room : working_of lab * lab.m ≤ vec_capacity l.shown;
    }

-- the clocks before this one were shown something by each faulty one
abbrev pub invariant-loop-to : goal.invariant-loop-to
invariant-loop-to g l =
    let lab = laboratory_of l.lab in record {
      shown : ShowsInTurn g.F.Face.allows l.round l.fn.face (flat_map (pairs_to (faulty_clocks lab)) (range_with_len 0 l.to))
          l.shown.items l.face;
      each : vec_len l.shown ≡ l.to * lab.m;
      room : working_of lab * lab.m ≤ vec_capacity l.shown;
    }
