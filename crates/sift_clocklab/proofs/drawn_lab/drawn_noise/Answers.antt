use Rattle.std.proofs.Common.{ℕ, ◌+◌, ◌-◌, ◌*◌, Vec, Global, ℤ, ap, ◌∙◌, arith, rules}
use Rattle.sift_base.specs.Draw.{after}
use Rattle.sift_clocklab.specs.Draws.{noises_drawn}
use Rattle.sift_clocklab.proofs.Lists.{rows_more, values_more}
use Rattle.sift_clocklab.proofs.Numbers.{after-after}
use Rattle.sift_clocklab.proofs.drawn_lab.drawn_noise.Goals as goal

-- no rows yet, and no draws
pub loop-own-init : goal.loop-own-init
unfolding after
loop-own-init c = search rules

-- one row more, and its draws
pub loop-own-preserved : goal.loop-own-preserved
loop-own-preserved c =
    let x = c.args.draw.now in
    let own : ℕ = c.loop-own.own in
    let each : ℕ = c.args.working - 1 in
    let inv = c.loop-own.invariant in
    let row = c.in_ok-drawn_row.field-0 in
    let one = rows_more (λ (r : Vec ℤ Global). r.items) c.loop-own.rows.items c.push.new.self.items row c.in_ok-push.ensures.items in
    record {
      noise = values_more (λ q. noises_drawn c.args.error c.args.working (after x (q * each)) q) own _ _ row.items inv.noise one
          (c.in_ok-drawn_row.ensures.row ∙ ap (λ y. noises_drawn c.args.error c.args.working y own) inv.next);
      next = c.in_ok-drawn_row.ensures.next ∙ after-after x c.loop-own.draw (own * each) each ((own + 1) * each) inv.next (omega arith);
    }
