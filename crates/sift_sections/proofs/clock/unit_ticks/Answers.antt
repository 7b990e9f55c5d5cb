use Rattle.std.proofs.Common.{◌≡◌, ◌≤◌, length, inl, inr, map, sym, take, ap, ◌∙◌, arith, w32, to_z, of_z}
use Rattle.std.proofs.lemmas.Int.{ints}
use Rattle.std.proofs.lemmas.List.{get_or-map, length-map, take_all}
use Rattle.toml.specs.View.{view}
use Rattle.sift_document.specs.laws.Arrays.{array_from}
use Rattle.sift_document.specs.laws.Places.{so_far}
use Rattle.sift_document.specs.laws.ReadEntries.{array_between-none, array_between-other, array_between-whole, differing, each_read-push}
use Rattle.sift_sections.specs.Clock.{ticks_within}
use Rattle.sift_sections.proofs.clock.unit_ticks.Goals as goal

-- an array of another length
pub returns-then-entries-from : goal.returns-then-entries-from
returns-then-entries-from c =
    rw (array_from _ _ c.in_ok-as_array.ensures, ← c.as_slice-entries.ensures.value)
    (sym (array_between-other (ticks_within c.args.far) c.args.units c.args.units c.as_slice-entries.result.now (elim (differing _ _ c.if-entries-from.true) [
      | inl short ↦ inl (omega (arith, short, c.from.ensures))
      | inr long ↦ inr (omega (arith, long, c.from.ensures))
    ])))

-- an entry is no such integer
pub returns-in_err-ticks_within : goal.returns-in_err-ticks_within
returns-in_err-ticks_within c =
    let entries = c.as_slice-entries.result.now in
    let here = get_or-map view entries c.loop-entry.entry-index c.entry-item.result (view c.entry-item.result) c.loop-entry-test.true ∙ ap view (sym c.entry-item.is) in
    rw (c.from_residual-in_err-ticks_within.ensures, array_from _ _ c.in_ok-as_array.ensures, ← c.as_slice-entries.ensures.value)
    (sym (array_between-none (ticks_within c.args.far) c.args.units c.args.units entries c.loop-entry.entry-index (view c.entry-item.result)
    (rw length-map c.loop-entry-test.true) (rw here (sym c.in_err-ticks_within.ensures.read))))

-- one more
pub loop-entry-preserved : goal.loop-entry-preserved
loop-entry-preserved c =
    let entries = c.as_slice-entries.result.now in
    let same : to_z w32 (of_z w32 c.in_ok-ticks_within.field-0) ≡ c.in_ok-ticks_within.field-0 = omega (arith, ints, c.in_ok-ticks_within.ensures.near) in (
      rw (so_far view entries c.loop-entry.entry-index c.entry-item.result c.loop-entry-test.true c.entry-item.is, c.push.ensures.items, same)
          (each_read-push (ticks_within c.args.far) (take c.loop-entry.entry-index (map view entries)) (view c.entry-item.result) _ _ c.loop-entry.invariant.0 (sym c.in_ok-ticks_within.ensures.read)),
      omega (arith, c.push.ensures.len, c.loop-entry.invariant.1),
    )

-- all entries were read
pub returns : goal.returns
returns c =
    let entries = c.as_slice-entries.result.now in
    let whole = take_all c.loop-entry.entry-index (map view entries) (rw length-map (omega (arith, c.loop-entry-test.false))) in
    let enough : c.args.units ≤ length entries = omega (arith, c.if-entries-from.false, c.from.ensures) in
    let few : length entries ≤ c.args.units = omega (arith, c.if-entries-from.false, c.from.ensures) in
    rw (array_from _ _ c.in_ok-as_array.ensures, ← c.as_slice-entries.ensures.value)
    (sym (array_between-whole (ticks_within c.args.far) c.args.units c.args.units entries _ enough few (rw (← whole) c.loop-entry.invariant.0)))
