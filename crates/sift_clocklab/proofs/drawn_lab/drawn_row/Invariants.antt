use Rattle.std.proofs.Common.{◌≡◌, map}
use Rattle.std.specs.List.{range_with_len}
use Rattle.sift_base.specs.Draw.{after}
use Rattle.sift_clocklab.specs.Draws.{noise_drawn, others_before}
use Rattle.sift_clocklab.proofs.drawn_lab.drawn_row.Given as goal

-- the noise of the clocks so far, and a draw for each other one
abbrev pub invariant-loop-other : goal.invariant-loop-other
invariant-loop-other l = record {
  row : l.row.items ≡ map (noise_drawn l.error l.fn.draw l.own) (range_with_len 0 l.other);
  next : l.draw ≡ after l.fn.draw (others_before l.own l.other);
}
