use Rattle.std.proofs.Common.{◌≡◌, ℕ, ◌+◌, ◌*◌, map, refl, ap, ◌∙◌, w32, w64, to_z, of_z, arith, rules}
use Rattle.std.proofs.lemmas.Int.{ints, to_z-of_z}
use Rattle.std.specs.List.{range_with_len}
use Rattle.sift_base.specs.Draw.{after, drawn}
use Rattle.sift_clocklab.specs.Draws.{drift_drawn, spread, start_drawn}
use Rattle.sift_clocklab.proofs.Lists.{values_more}
use Rattle.sift_clocklab.proofs.Numbers.{after-next}
use Rattle.sift_clocklab.proofs.drawn_lab.drawn_clocks.Goals as goal

-- no clocks yet, and no draws
pub loop-init : goal.loop-init
unfolding after
loop-init c = search rules

-- one clock more, and two draws
pub loop-preserved : goal.loop-preserved
loop-preserved c =
    let x = c.args.draw.now in
    let k : ℕ = c.loop.counter in
    let inv = c.loop.invariant in
    let one = after-next x c.loop.draw c.draw.new.self (2 * k) (2 * k + 1) inv.next c.draw.ensures.next refl in
    let two = after-next x c.draw.new.self c.spread.new.draw (2 * k + 1) (2 * k + 2) one c.spread.ensures.next (omega arith) in
    let number : c.draw.result ≡ drawn (after x (2 * k + 1)) (c.args.skew + 1) =
    c.draw.ensures.drawn ∙ (λ i. drawn (one i) (c.from.ensures i + 1)) in
    let start : to_z w64 c.draw.result ≡ start_drawn c.args.skew x k = omega (arith, ints, number) in
    let held : to_z w32 (of_z w32 c.spread.result) ≡ c.spread.result = to_z-of_z w32 c.spread.result (record { sfits = c.spread.type_inv }) in
    let places : 2 * k + 2 ≡ 2 * (k + 1) = omega arith in
    record {
      start =
          values_more (start_drawn c.args.skew x) k c.loop.start.items c.push.new.self.items _ inv.start
          c.in_ok-push.ensures.items start;
      drift =
          values_more (drift_drawn c.args.rate x) k c.loop.drift.items c.push-in-loop.new.self.items _ inv.drift
          c.in_ok-push-2.ensures.items (held ∙ (c.spread.ensures.drawn ∙ ap (spread c.args.rate) two));
      next = two ∙ ap (after x) places;
    }

pub returns-clause-start : goal.returns-clause-start
returns-clause-start c =
    let end : c.loop.counter ≡ c.args.working = omega arith in
    c.loop.invariant.start ∙ ap (λ n. map (start_drawn c.args.skew c.args.draw.now) (range_with_len 0 n)) end

pub returns-clause-drift : goal.returns-clause-drift
returns-clause-drift c =
    let end : c.loop.counter ≡ c.args.working = omega arith in
    c.loop.invariant.drift ∙ ap (λ n. map (drift_drawn c.args.rate c.args.draw.now) (range_with_len 0 n)) end

pub returns-clause-next : goal.returns-clause-next
returns-clause-next c =
    let end : c.loop.counter ≡ c.args.working = omega arith in
    c.loop.invariant.next ∙ ap (λ n. after c.args.draw.now (2 * n)) end
