use Rattle.std.proofs.Common.{◌≡◌, ◌+◌, ◌∙◌, length, map, arith, ap, sym, subst}
use Rattle.std.specs.List.{range_with_len}
use Rattle.std.proofs.lemmas.List.FromFn.{length-map-range_with_len}
use Rattle.sift_byz.specs.Plan.{IsSquare, byz_plan_of, vector}
use Rattle.sift_byz.proofs.Entries.{vectors_are_square}
use Rattle.sift_byz.proofs.Growing.{grown_in_part, room_left}
use Rattle.sift_byz.proofs.exchanging.exchange.Goals as goal

-- there is room for each unit
pub loop-q-init : goal.loop-q-init
loop-q-init c =
    record {
      filled = ap (map (λ row. row.items)) c.in_ok-rows.ensures.items;
      each = c.in_ok-rows.ensures.len;
      room = rw c.from.ensures at c.in_ok-rows.ensures.capacity;
    }

pub push_reserved-requires : goal.push_reserved-requires
push_reserved-requires c = room_left _ _ _ _ c.loop-q.invariant.each c.loop-q-test.true c.loop-q.invariant.room

pub vector_of-requires : goal.vector_of-requires
vector_of-requires c = record { results = rw c.deref.ensures.value c.in_ok-results.ensures; unit = c.loop-q-test.true }

-- one vector more
pub loop-q-preserved : goal.loop-q-preserved
loop-q-preserved c =
    record {
      filled = grown_in_part (λ row. row.items) (vector (byz_plan_of c.args.plan.now)) _ _ _ _ c.loop-q.invariant.filled
          c.push_reserved.ensures.items c.vector_of.ensures;
      each = c.push_reserved.ensures.len ∙ ap (λ n. n + 1) c.loop-q.invariant.each;
      room = rw c.push_reserved.ensures.capacity c.loop-q.invariant.room;
    }

-- all vectors
pub invariant_of-result : goal.invariant_of-result
invariant_of-result c =
    let all : c.loop-q.q ≡ c.args.plan.now.units = omega (arith, c.loop-q.auto, c.loop-q-test.false) in
    let vectors = c.loop-q.invariant.filled ∙ ap (λ n. map (vector (byz_plan_of c.args.plan.now)) (range_with_len 0 n)) all in
    subst IsSquare (sym vectors) (vectors_are_square (byz_plan_of c.args.plan.now))

pub returns-clause-vectors : goal.returns-clause-vectors
returns-clause-vectors c =
    let all : c.loop-q.q ≡ c.args.plan.now.units = omega (arith, c.loop-q.auto, c.loop-q-test.false) in
    c.loop-q.invariant.filled ∙ ap (λ n. map (vector (byz_plan_of c.args.plan.now)) (range_with_len 0 n)) all

pub returns-clause-units : goal.returns-clause-units
returns-clause-units c =
    let all : c.loop-q.q ≡ c.args.plan.now.units = omega (arith, c.loop-q.auto, c.loop-q-test.false) in
    ap length c.loop-q.invariant.filled ∙ length-map-range_with_len (vector (byz_plan_of c.args.plan.now)) 0 c.loop-q.q ∙ all
