use Rattle.std.proofs.Common.{List, [], ◌∷◌, ◌++◌, length, sym, ap, ◌∙◌, arith}
use Rattle.std.proofs.lemmas.List.{length-append}
use mathlib.Core.List.{append_assoc}
use Rattle.sift_workers.proofs.Dealt.{dealt_less, dealt_some, all_of}
use Rattle.sift_workers.proofs.dealing.collect.Goals as goal

pub unreachable-requires : goal.unreachable-requires
unreachable-requires g c =
    let d = c.requires.dealt in let r = c.loop-place.invariant.rest d.0 d.1 d.2 in
    let o = c.index_mut.result.now in
    let some = dealt_some c.args.workers c.args.threads c.loop-place.place c.requires.some.1 c.loop-place.hands.items o c.pop.new.self
    c.thread_for-thread.result c.thread_for-thread.ensures.thread c.index_mut.ensures.value r.0 r.2
    (omega (arith, ap length r.1, length-append c.loop-place.all.items r.0, d.1, c.loop-place.invariant.count, c.loop-place-test.true)) in
    let none = c.in-None.ensures.cases.0 in let size = o.ok.0 in omega arith

pub loop-place-preserved : goal.loop-place-preserved
loop-place-preserved g c = record {
  within = (let t = c.loop-place-test.true in omega arith);
  count = omega (arith, ap length c.push_reserved.ensures.items, length-append c.loop-place.all.items (c.in-Some.pilot ∷ []), c.loop-place.invariant.count);
  room = (let r = c.loop-place.invariant.room in let k = c.push_reserved.ensures.capacity in omega arith);
  rest = λ xs long dealt.
      let r = c.loop-place.invariant.rest xs long dealt in
      let t = dealt_less c.args.workers c.args.threads c.loop-place.place c.requires.some.1 c.loop-place.hands.items c.index_mut.result.now c.pop.new.self
      c.thread_for-thread.result c.thread_for-thread.ensures.thread c.index_mut.ensures.value c.in-Some.pilot r.0 r.2
      c.in-Some.ensures.items
      (omega (arith, ap length r.1, length-append c.loop-place.all.items r.0, long, c.loop-place.invariant.count, c.loop-place-test.true)) in (
        t.rest,
        r.1 ∙ (ap (λ (z : List g.row.P.Denot). c.loop-place.all.items ++ z) t.is
            ∙ (sym (append_assoc c.loop-place.all.items (c.in-Some.pilot ∷ []) t.rest)
            ∙ ap (λ (z : List g.row.P.Denot). z ++ t.rest) (sym c.push_reserved.ensures.items))),
        t.dealt,
      );
}

pub loop-place-init : goal.loop-place-init
loop-place-init g c = record {
  within = omega arith;
  count = ap length c.requires.empty;
  room = c.requires.room;
  rest = λ xs long dealt. (xs, (λ i. sym c.requires.empty i ++ xs), dealt);
}

pub returns : goal.returns
returns g c = λ xs long dealt.
    let inv = c.loop-place.invariant in let r = inv.rest xs long dealt in
    all_of xs c.loop-place.all.items r.0 r.1 (let count = inv.count in let all = c.loop-place-test.false in omega arith)
