use Rattle.std.proofs.Common.{sym, ◌∙◌}
use Rattle.std.proofs.lemmas.List.{map-append}
use Rattle.toml.specs.View.{view}
use Rattle.sift_document.specs.Document.{digits_to}
use Rattle.sift_document.specs.laws.ReadEntries.{array_of-values, value-all, value-none, value-step}
use Rattle.sift_document.proofs.value.digit_lists.Goals as goal

-- an entry is no string of digits
pub returns-in-None : goal.returns-in-None
returns-in-None c =
    sym (array_of-values (digits_to c.args.last) c.as_slice-entry-items.result.now (view c.args.value.now) (rw c.as_slice-entry-items.ensures.value c.in-Some.ensures)
    ∙ value-none (digits_to c.args.last) c.as_slice-entry-items.result.now c.loop-entry.entry-index c.entry-item.result c.loop-entry-test.true c.entry-item.is
    (sym (rw c.in-None.is at c.in_ok-list.ensures)))

-- one list more
pub loop-entry-preserved : goal.loop-entry-preserved
loop-entry-preserved c =
    rw (c.in_ok-push-in-Some-2.ensures.items, map-append)
    (value-step (digits_to c.args.last) c.as_slice-entry-items.result.now c.loop-entry.entry-index c.entry-item.result _ _ c.loop-entry-test.true c.entry-item.is
    c.loop-entry.invariant (sym (rw c.in-Some-2.is at c.in_ok-list.ensures)))

-- all entries were read
pub returns : goal.returns
returns c =
    sym (array_of-values (digits_to c.args.last) c.as_slice-entry-items.result.now (view c.args.value.now) (rw c.as_slice-entry-items.ensures.value c.in-Some.ensures)
    ∙ value-all (digits_to c.args.last) c.as_slice-entry-items.result.now c.loop-entry.entry-index _ c.loop-entry-test.false c.loop-entry.invariant)
