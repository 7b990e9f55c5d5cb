use Rattle.std.proofs.Common.{slice_index}
use Rattle.std.specs.Fmt.{decimal}
use Rattle.std.proofs.lemmas.List.{get_or_default}
use Rattle.sift_planner.proofs.Listed.{listed_more, written_more}
use Rattle.sift_planner.proofs.text.push_numbers.Goals as goal

-- one number more
pub loop-place-preserved : goal.loop-place-preserved
loop-place-preserved c =
    let numbers = c.args.numbers.now in
    let number = slice_index numbers c.loop-place.place in
    written_more _ _ _ _ _ _ _ _ c.loop-place.invariant c.in_ok-push_break.ensures c.in_ok-write.ensures.bytes
    (listed_more decimal numbers c.loop-place.place number c.loop-place-test.true (get_or_default numbers c.loop-place.place 0 number c.loop-place-test.true))
