use Rattle.std.proofs.Common.{◌≡◌, ◌*◌, map}
use Rattle.std.specs.List.{range_with_len}
use Rattle.sift_base.specs.Draw.{after}
use Rattle.sift_clocklab.specs.Draws.{drift_drawn, start_drawn}
use Rattle.sift_clocklab.proofs.drawn_lab.drawn_clocks.Given as goal

-- the starts and drifts so far, and as many draws
abbrev pub invariant-loop : goal.invariant-loop
invariant-loop l = record {
  start : l.start.items ≡ map (start_drawn l.skew l.fn.draw) (range_with_len 0 l.counter);
  drift : l.drift.items ≡ map (drift_drawn l.rate l.fn.draw) (range_with_len 0 l.counter);
  next : l.draw ≡ after l.fn.draw (2 * l.counter);
}
