use Rattle.std.proofs.Common.{◌≡◌, ap, rules, sym, ◌∙◌}
use Rattle.toml.specs.View.{view}
use Rattle.sift_document.specs.Document.{integer_between}
use Rattle.sift_document.specs.laws.ReadEntries.{array_of-values, value-all, value-none, value-step}
use Rattle.sift_document.proofs.value.numbers_to.Goals as goal

-- an entry is no such number
pub returns-in-None : goal.returns-in-None
returns-in-None c =
    let high : c.from.result ≡ c.args.high = search rules in
    let none = ap (λ h. integer_between 0 h (view c.entry-item.result)) (sym high) ∙ sym c.in-None.ensures in
    sym (array_of-values (integer_between 0 c.args.high) c.as_slice-entry-items.result.now (view c.args.value.now) (rw c.as_slice-entry-items.ensures.value c.in-Some.ensures)
    ∙ value-none (integer_between 0 c.args.high) c.as_slice-entry-items.result.now c.loop-entry.entry-index c.entry-item.result c.loop-entry-test.true c.entry-item.is none)

-- one number more
pub loop-entry-preserved : goal.loop-entry-preserved
loop-entry-preserved c =
    let high : c.from.result ≡ c.args.high = search rules in
    let read = ap (λ h. integer_between 0 h (view c.entry-item.result)) (sym high) ∙ sym c.in-Some-integer_between.ensures in
    rw c.in_ok-push-in-Some-integer_between.ensures.items
    (value-step (integer_between 0 c.args.high) c.as_slice-entry-items.result.now c.loop-entry.entry-index c.entry-item.result _ _ c.loop-entry-test.true c.entry-item.is
    c.loop-entry.invariant read)

-- all entries were read
pub returns : goal.returns
returns c =
    sym (array_of-values (integer_between 0 c.args.high) c.as_slice-entry-items.result.now (view c.args.value.now) (rw c.as_slice-entry-items.ensures.value c.in-Some.ensures)
    ∙ value-all (integer_between 0 c.args.high) c.as_slice-entry-items.result.now c.loop-entry.entry-index _ c.loop-entry-test.false c.loop-entry.invariant)
