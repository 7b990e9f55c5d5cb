use Rattle.std.proofs.Common.{inl, inr, map, sym, take, ap, ◌∙◌, arith}
use Rattle.std.proofs.lemmas.List.{get_or-map, length-map, take_all}
use Rattle.toml.specs.View.{view}
use Rattle.sift_document.specs.Document.{word_value}
use Rattle.sift_document.specs.laws.Arrays.{array_from}
use Rattle.sift_document.specs.laws.Places.{so_far}
use Rattle.sift_document.specs.laws.ReadEntries.{array_between-none, array_between-other, array_between-whole, each_read-push}
use Rattle.sift_document.proofs.value.word_array.Goals as goal
use Rattle.sift_document.proofs.value.word_array.Goals.{then-entries-low-via-then-entries-low, then-entries-low-via-else-entries-low+then-high-entries}

-- an array of another length
pub returns-then-entries-low : goal.returns-then-entries-low
returns-then-entries-low g c =
    rw (array_from _ _ c.in_ok-as_array.ensures, ← c.as_slice-entries.ensures.value)
    (sym (array_between-other word_value c.args.low c.args.high c.as_slice-entries.result.now (elim c.then-entries-low.branch [
      | then-entries-low-via-then-entries-low w ↦ inl w.if-entries-low.true
      | then-entries-low-via-else-entries-low+then-high-entries w ↦ inr w.if-high-entries.true
    ])))

-- an entry is no word value
pub returns-in_err-word_value : goal.returns-in_err-word_value
returns-in_err-word_value g c =
    let entries = c.as_slice-entries.result.now in
    let here = get_or-map view entries c.loop-entry.entry-index c.entry-item.result (view c.entry-item.result) c.loop-entry-test.true ∙ ap view (sym c.entry-item.is) in
    rw (c.from_residual-in_err-word_value.ensures, array_from _ _ c.in_ok-as_array.ensures, ← c.as_slice-entries.ensures.value)
    (sym (array_between-none word_value c.args.low c.args.high entries c.loop-entry.entry-index (view c.entry-item.result)
    (rw length-map c.loop-entry-test.true) (rw here (sym c.in_err-word_value.ensures))))

-- one word more
pub loop-entry-preserved : goal.loop-entry-preserved
loop-entry-preserved g c =
    let entries = c.as_slice-entries.result.now in (
      rw (so_far view entries c.loop-entry.entry-index c.entry-item.result c.loop-entry-test.true c.entry-item.is, c.push.ensures.items)
          (each_read-push word_value (take c.loop-entry.entry-index (map view entries)) (view c.entry-item.result) _ _ c.loop-entry.invariant.0 (sym c.in_ok-word_value.ensures)),
      omega (arith, c.push.ensures.len, c.loop-entry.invariant.1),
    )

-- all entries were read
pub returns : goal.returns
returns g c =
    let entries = c.as_slice-entries.result.now in
    let whole = take_all c.loop-entry.entry-index (map view entries) (rw length-map (omega (arith, c.loop-entry-test.false))) in
    rw (array_from _ _ c.in_ok-as_array.ensures, ← c.as_slice-entries.ensures.value)
    (sym (array_between-whole word_value c.args.low c.args.high entries _ c.if-entries-low.false c.if-high-entries.false (rw (← whole) c.loop-entry.invariant.0)))
