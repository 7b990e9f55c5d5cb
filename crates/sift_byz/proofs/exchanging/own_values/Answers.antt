use Rattle.std.proofs.Common.{◌≡◌, ◌<◌, ◌+◌, ℕ, get_or, length, map, ap, ◌∙◌, Some, Option, arith}
use Rattle.std.specs.List.{range_with_len}
use Rattle.std.proofs.lemmas.List.{get_or_default}
use Rattle.sift_byz.specs.Plan.{byz_plan_of, value_of}
use Rattle.sift_byz.proofs.Charts.{own_shown}
use Rattle.sift_byz.proofs.Growing.{grown, room_left}
use Rattle.sift_byz.proofs.exchanging.own_values.Goals as goal

-- there is room for each unit
pub loop-unit-init : goal.loop-unit-init
loop-unit-init c =
    record { filled = c.in_ok-chart.ensures.items; each = c.in_ok-chart.ensures.len; room = rw c.from.ensures at c.in_ok-chart.ensures.capacity }

pub push_reserved-requires : goal.push_reserved-requires
push_reserved-requires c =
    room_left _ _ _ _ c.loop-unit.invariant.each (rw c.from-unit-end.ensures at c.loop-unit-test.true) c.loop-unit.invariant.room

-- one value more
pub loop-unit-preserved : goal.loop-unit-preserved
loop-unit-preserved c =
    let values = c.args.plan.now.values.items in
    let unit : ℕ = c.loop-unit.unit in
    let low : unit < length values = rw (c.requires.valued) (rw c.from-unit-end.ensures at c.loop-unit-test.true) in
    let is : c.index-deref-unit.result ≡ get_or values unit 0 =
    (rw c.deref.ensures.0 at c.index-deref-unit.is) ∙ get_or_default values unit c.index-deref-unit.result 0 low in
    record {
      filled = grown (λ u. Some (value_of (byz_plan_of c.args.plan.now) u)) _ _ _ _ c.loop-unit.invariant.filled c.push_reserved.ensures.items (ap Some is);
      each = c.push_reserved.ensures.len ∙ ap (λ n. n + 1) c.loop-unit.invariant.each;
      room = rw c.push_reserved.ensures.capacity c.loop-unit.invariant.room;
    }

-- all values stand there
pub returns : goal.returns
returns c =
    let own : ℕ → Option ℕ = λ u. Some (value_of (byz_plan_of c.args.plan.now) u) in
    let all : c.loop-unit.unit ≡ c.args.plan.now.units = omega (arith, c.loop-unit.auto, c.loop-unit-test.false, c.from-unit-end.ensures) in
    own_shown (byz_plan_of c.args.plan.now) c.requires.some c.loop-unit.chart.items (c.loop-unit.invariant.filled ∙ ap (λ n. map own (range_with_len 0 n)) all)

pub bounds-deref-unit : goal.bounds-deref-unit
bounds-deref-unit c = rw (c.deref.ensures.0, c.requires.valued) (rw c.from-unit-end.ensures at c.loop-unit-test.true)
