use Rattle.std.proofs.Common.{length, map, refl, arith}
use Rattle.std.proofs.lemmas.List.{length-map, take_all}
use Rattle.sift_document.specs.laws.Places.{read_more}
use Rattle.sift_scenario.proofs.program.names_for.Goals as goal

-- a task more
pub loop-place-preserved : goal.loop-place-preserved
loop-place-preserved c = (
  read_more (λ task. task.0.bytes) (λ name. name.bytes) c.args.names.now _ _ c.loop-place.place c.index-names-place.result _
      c.loop-place-test.true c.index-names-place.is c.loop-place.invariant.0 c.in_ok-push.ensures.items refl,
  read_more (λ task. task.1) (λ words. length words.items) c.args.starts.now _ _ c.loop-place.place c.index-starts-place.result _
      (omega (arith, c.loop-place-test.true, c.requires)) c.index-starts-place.is c.loop-place.invariant.1 c.in_ok-push.ensures.items c.len.ensures.value,
)

-- all tasks were taken
pub returns : goal.returns
returns c =
    let names = take_all c.loop-place.place (map (λ name. name.bytes) c.args.names.now) (rw length-map c.loop-place-test.false) in
    let sizes = take_all c.loop-place.place (map (λ words. length words.items) c.args.starts.now) (rw length-map (omega (arith, c.loop-place-test.false, c.requires))) in
    rw (c.in_ok-from_slice.ensures.items, c.loop-place.invariant.0, names, c.loop-place.invariant.1, sizes) refl

-- there are as many start words as names
pub bounds-starts-place : goal.bounds-starts-place
bounds-starts-place c = omega (arith, c.loop-place-test.true, c.requires)
