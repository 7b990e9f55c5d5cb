use Rattle.std.proofs.Common.{◌≡◌, ◌+◌, ◌-◌, ◌*◌, map, ◌+ℤ◌, ap, ◌∙◌, w32}
use Rattle.std.specs.Prelude.{unsigned_abs}
use Rattle.std.specs.List.{range_with_len}
use Rattle.std.proofs.lemmas.Int.{to_z-of_z}
use Rattle.sift_base.specs.Draw.{after}
use Rattle.sift_clocklab.specs.Draws.{drift_drawn, noise_place, noises_drawn, start_drawn}
use Rattle.sift_clocklab.proofs.DrawnLabs.{abs_sum}
use Rattle.sift_clocklab.proofs.Products.{held}
use Rattle.sift_clocklab.proofs.drawn_lab.make_drawn.Goals as goal

pub returns-clause-lab : goal.returns-clause-lab
returns-clause-lab c =
    let a = c.args in
    let clocks = range_with_len 0 (a.n - a.m) in
    let skew : held a.skew ≡ a.skew = to_z-of_z w32 a.skew c.ranges.skew in
    let error : held a.error ≡ a.error = to_z-of_z w32 a.error c.ranges.error in
    let rate : held a.rate ≡ a.rate = to_z-of_z w32 a.rate c.ranges.rate in
    let apart : c.unsigned_abs-apart.result ≡ unsigned_abs a.skew = c.unsigned_abs-apart.ensures.value ∙ ap unsigned_abs skew in
    let misread : c.unsigned_abs-misread.result ≡ unsigned_abs a.error = c.unsigned_abs-misread.ensures.value ∙ ap unsigned_abs error in
    let change : c.unsigned_abs-change.result ≡ unsigned_abs a.rate = c.unsigned_abs-change.ensures.value ∙ ap unsigned_abs rate in
    let first = c.of-draw.ensures in
    let next : c.drawn_clocks.new.draw ≡ noise_place (a.n - a.m) a.number =
    c.in_ok-start.ensures.next ∙ ap (noise_place (a.n - a.m)) first in
    let start = c.in_ok-start.ensures.start ∙ (λ i. map (start_drawn (apart i) (first i)) clocks) in
    let drift = c.in_ok-start.ensures.drift ∙ (λ i. map (drift_drawn (change i) (first i)) clocks) in
    let noise = c.in_ok-noise.ensures.noise
    ∙ (λ i. map (λ q. noises_drawn (misread i) (a.n - a.m) (after (next i) (q * (a.n - a.m - 1))) q) clocks) in
    λ i. record {
      n = a.n;
      m = a.m;
      skew = skew i;
      error = error i;
      rate = rate i;
      rounds = a.rounds;
      start = start i;
      drift = drift i;
      noise = noise i;
    }

pub returns-clause-face : goal.returns-clause-face
returns-clause-face c =
    let a = c.args in
    let skew : held a.skew ≡ a.skew = to_z-of_z w32 a.skew c.ranges.skew in
    let error : held a.error ≡ a.error = to_z-of_z w32 a.error c.ranges.error in
    let apart : c.unsigned_abs-apart.result ≡ unsigned_abs a.skew = c.unsigned_abs-apart.ensures.value ∙ ap unsigned_abs skew in
    let misread : c.unsigned_abs-misread.result ≡ unsigned_abs a.error = c.unsigned_abs-misread.ensures.value ∙ ap unsigned_abs error in
    let next : c.drawn_clocks.new.draw ≡ noise_place (a.n - a.m) a.number =
    c.in_ok-start.ensures.next ∙ ap (noise_place (a.n - a.m)) c.of-draw.ensures in
    let draw = c.in_ok-noise.ensures.next ∙ ap (λ y. after y ((a.n - a.m) * (a.n - a.m - 1))) next in
    let limit : c.unsigned_abs-apart.result + c.unsigned_abs-misread.result ≡ unsigned_abs (a.skew +ℤ a.error) =
    (λ i. apart i + misread i) ∙ abs_sum a.skew a.error c.requires.in_range.small_skew.0 c.requires.in_range.small_error.0 in
    λ i. record { draw = draw i; limit = limit i }
