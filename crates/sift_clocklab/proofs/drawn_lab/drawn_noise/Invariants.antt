use Rattle.std.proofs.Common.{◌≡◌, ◌-◌, ◌*◌, map}
use Rattle.std.specs.List.{range_with_len}
use Rattle.sift_base.specs.Draw.{after}
use Rattle.sift_clocklab.specs.Draws.{noises_drawn}
use Rattle.sift_clocklab.proofs.drawn_lab.drawn_noise.Given as goal

-- the rows so far, and the draws of each
abbrev pub invariant-loop-own : goal.invariant-loop-own
invariant-loop-own l = record {
  noise : map (λ row. row.items) l.rows.items
      ≡ map (λ q. noises_drawn l.error l.working (after l.fn.draw (q * (l.working - 1))) q) (range_with_len 0 l.own);
  next : l.draw ≡ after l.fn.draw (l.own * (l.working - 1));
}
