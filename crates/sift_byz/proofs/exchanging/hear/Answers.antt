use Rattle.std.proofs.Common.{◌≡◌, ◌+◌, ◌*◌, ◌≤◌, length, map, arith, ap, ◌∙◌}
use Rattle.std.specs.List.{range_with_len}
use Rattle.std.proofs.Math.Nat.{mul-le-mul}
use Rattle.sift_byz.specs.Charts.{heard_at}
use Rattle.sift_byz.specs.Plan.{byz_plan_of}
use Rattle.sift_byz.proofs.Charts.{heard_shown}
use Rattle.sift_byz.proofs.Digits.{few_places}
use Rattle.sift_byz.proofs.Growing.{grown, room_left}
use Rattle.sift_byz.proofs.exchanging.hear.Goals as goal

-- the next chart is small
pub overflow_mul-places : goal.overflow_mul-places
overflow_mul-places c =
    let few : length c.args.before.now ≤ 10000 =
    rw c.requires.heard.long (few_places c.args.plan.now.units c.args.count c.requires.range.few (omega (arith, c.requires.short))) in
    let ten : c.from.result ≤ 10 = omega (arith, c.from.ensures, c.requires.range.few) in
    let most : length c.args.before.now * c.from.result ≤ 10000 * 10 = mul-le-mul few ten in
    omega arith

-- there is room for each place
pub loop-place-init : goal.loop-place-init
loop-place-init c =
    record { filled = c.in_ok-chart.ensures.items; each = c.in_ok-chart.ensures.len; room = rw c.from.ensures at c.in_ok-chart.ensures.capacity }

pub push_reserved-requires : goal.push_reserved-requires
push_reserved-requires c = room_left _ _ _ _ c.loop-place.invariant.each (rw c.from.ensures at c.loop-place-test.true) c.loop-place.invariant.room

pub heard_at-requires : goal.heard_at-requires
heard_at-requires c = record { range = c.requires.range; short = c.requires.short; within = rw c.from.ensures at c.loop-place-test.true }

-- one place more
pub loop-place-preserved : goal.loop-place-preserved
loop-place-preserved c =
    record {
      filled = grown (heard_at (byz_plan_of c.args.plan.now) c.args.count c.args.before.now) _ _ _ _ c.loop-place.invariant.filled
          c.push_reserved.ensures.items c.heard_at.ensures;
      each = c.push_reserved.ensures.len ∙ ap (λ n. n + 1) c.loop-place.invariant.each;
      room = rw c.push_reserved.ensures.capacity c.loop-place.invariant.room;
    }

-- all places
pub returns : goal.returns
returns c =
    let end : c.loop-place.place ≡ length c.args.before.now * c.from.result = omega (arith, c.loop-place.auto, c.loop-place-test.false) in
    let all : c.loop-place.place ≡ length c.args.before.now * c.args.plan.now.units = end ∙ ap (λ n. length c.args.before.now * n) c.from.ensures in
    heard_shown (byz_plan_of c.args.plan.now) c.requires.range.some c.args.count c.args.before.now c.loop-place.chart.items c.requires.heard
    (c.loop-place.invariant.filled ∙ ap (λ n. map (heard_at (byz_plan_of c.args.plan.now) c.args.count c.args.before.now) (range_with_len 0 n)) all)
