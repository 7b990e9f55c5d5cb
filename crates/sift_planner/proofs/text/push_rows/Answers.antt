use Rattle.std.proofs.Common.{◌≡◌, ◌<◌, ◌∙◌, length, map, get_or, ap, sym, arith}
use Rattle.std.proofs.lemmas.List.{get_or-map, length-map}
use Rattle.sift_planner.specs.Text.{positions_text}
use Rattle.sift_planner.proofs.Listed.{listed_more, written_more}
use Rattle.sift_planner.proofs.text.push_rows.Goals as goal

-- one row more
pub loop-place-preserved : goal.loop-place-preserved
loop-place-preserved c =
    let rows = c.args.rows.now in
    let place = c.loop-place.place in
    let row = c.index-rows-place.result in
    let lists = map (λ row. row.items) rows in
    let low : place < length lists = omega (arith, c.loop-place-test.true, length-map rows (λ row. row.items)) in
    let here : row.items ≡ get_or lists place row.items =
    ap (λ row. row.items) c.index-rows-place.is ∙ sym (get_or-map (λ row. row.items) rows place row row.items c.loop-place-test.true) in
    written_more _ _ _ _ _ _ _ _ c.loop-place.invariant c.in_ok-push_break.ensures (rw c.deref.ensures.value at c.in_ok-push_positions.ensures)
    (listed_more positions_text lists place row.items low here)
