use Rattle.std.proofs.Common.{◌≡◌, ◌+◌, ℕ, length, map, Option, Some, arith, ap, ◌∙◌}
use Rattle.std.specs.List.{range_with_len}
use Rattle.sift_vote.specs.Majority.{agreed_of}
use Rattle.sift_byz.specs.Charts.{places_at}
use Rattle.sift_byz.specs.Plan.{byz_plan_of}
use Rattle.sift_byz.proofs.Charts.{folded_shown}
use Rattle.sift_byz.proofs.Growing.{grown, room_left}
use Rattle.sift_byz.proofs.exchanging.fold.Goals as goal

-- there is room for each place
pub loop-place-init : goal.loop-place-init
loop-place-init c = record { filled = c.in_ok-chart.ensures.items; each = c.in_ok-chart.ensures.len; room = c.in_ok-chart.ensures.capacity }

pub push_reserved-requires : goal.push_reserved-requires
push_reserved-requires c = room_left _ _ _ _ c.loop-place.invariant.each c.loop-place-test.true c.loop-place.invariant.room

-- one place more
pub loop-place-preserved : goal.loop-place-preserved
loop-place-preserved c =
    let next : ℕ → Option ℕ = λ i. Some (agreed_of (places_at (byz_plan_of c.args.plan.now) c.args.count c.args.heard.now c.args.longer.now i)) in
    record {
      filled = grown next _ _ _ _ c.loop-place.invariant.filled c.push_reserved.ensures.items (ap Some c.agreed_at.ensures);
      each = c.push_reserved.ensures.len ∙ ap (λ n. n + 1) c.loop-place.invariant.each;
      room = rw c.push_reserved.ensures.capacity c.loop-place.invariant.room;
    }

-- all places
pub returns : goal.returns
returns c rounds shown =
    let next : ℕ → Option ℕ = λ i. Some (agreed_of (places_at (byz_plan_of c.args.plan.now) c.args.count c.args.heard.now c.args.longer.now i)) in
    let all : c.loop-place.place ≡ length c.args.heard.now = omega (arith, c.loop-place.auto, c.loop-place-test.false) in
    folded_shown (byz_plan_of c.args.plan.now) c.requires.range.some c.args.count rounds c.args.heard.now c.args.longer.now c.loop-place.chart.items
    c.requires.relayed.shown shown (c.loop-place.invariant.filled ∙ ap (λ n. map next (range_with_len 0 n)) all)
