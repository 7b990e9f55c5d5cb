use Rattle.std.proofs.Common.{◌≤◌, length, inl, inr, map, sym, take, ap, ◌∙◌, arith}
use Rattle.std.proofs.lemmas.List.{get_or-map, length-map, map-append, take_all}
use Rattle.toml.specs.View.{view}
use Rattle.sift_document.specs.laws.Arrays.{array_from}
use Rattle.sift_document.specs.laws.Places.{so_far}
use Rattle.sift_document.specs.laws.ReadEntries.{array_between-none, array_between-other, array_between-whole, differing, each_read-push}
use Rattle.sift_sections.specs.Clock.{unit_ticks}
use Rattle.sift_sections.proofs.clock.unit_rows.Goals as goal

-- an array of another length
pub returns-then-entries-from : goal.returns-then-entries-from
returns-then-entries-from c =
    rw (array_from _ _ c.in_ok-as_array.ensures, ← c.as_slice-entries.ensures.value)
    (sym (array_between-other (unit_ticks c.args.units c.args.far) c.args.units c.args.units c.as_slice-entries.result.now (elim (differing _ _ c.if-entries-from.true) [
      | inl short ↦ inl (omega (arith, short, c.from.ensures))
      | inr long ↦ inr (omega (arith, long, c.from.ensures))
    ])))

-- an entry is no array of ticks
pub returns-in_err-unit_ticks : goal.returns-in_err-unit_ticks
returns-in_err-unit_ticks c =
    let entries = c.as_slice-entries.result.now in
    let here = get_or-map view entries c.loop-entry.entry-index c.entry-item.result (view c.entry-item.result) c.loop-entry-test.true ∙ ap view (sym c.entry-item.is) in
    rw (c.from_residual-in_err-unit_ticks.ensures, array_from _ _ c.in_ok-as_array.ensures, ← c.as_slice-entries.ensures.value)
    (sym (array_between-none (unit_ticks c.args.units c.args.far) c.args.units c.args.units entries c.loop-entry.entry-index (view c.entry-item.result)
    (rw length-map c.loop-entry-test.true) (rw here (sym c.in_err-unit_ticks.ensures))))

-- one more
pub loop-entry-preserved : goal.loop-entry-preserved
loop-entry-preserved c =
    let entries = c.as_slice-entries.result.now in (
      rw (so_far view entries c.loop-entry.entry-index c.entry-item.result c.loop-entry-test.true c.entry-item.is, c.push.ensures.items, map-append)
          (each_read-push (unit_ticks c.args.units c.args.far) (take c.loop-entry.entry-index (map view entries)) (view c.entry-item.result) _ _
          c.loop-entry.invariant.0 (sym c.in_ok-unit_ticks.ensures)),
      omega (arith, c.push.ensures.len, c.loop-entry.invariant.1),
    )

-- all entries were read
pub returns : goal.returns
returns c =
    let entries = c.as_slice-entries.result.now in
    let whole = take_all c.loop-entry.entry-index (map view entries) (rw length-map (omega (arith, c.loop-entry-test.false))) in
    let enough : c.args.units ≤ length entries = omega (arith, c.if-entries-from.false, c.from.ensures) in
    let few : length entries ≤ c.args.units = omega (arith, c.if-entries-from.false, c.from.ensures) in
    rw (array_from _ _ c.in_ok-as_array.ensures, ← c.as_slice-entries.ensures.value)
    (sym (array_between-whole (unit_ticks c.args.units c.args.far) c.args.units c.args.units entries _ enough few (rw (← whole) c.loop-entry.invariant.0)))
