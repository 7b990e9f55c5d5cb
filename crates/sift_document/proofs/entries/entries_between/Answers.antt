use Rattle.std.proofs.Common.{inl, inr}
use Rattle.sift_document.specs.laws.Arrays.{entries_of-values, is_array, no_array}
use Rattle.sift_document.proofs.entries.entries_between.Goals as goal
use Rattle.sift_document.proofs.entries.entries_between.Goals.{then-entries-low-via-then-entries-low, then-entries-low-via-else-entries-low+then-high-entries}

-- the array has another number of entries
pub returns-then-entries-low-clause-wrong : goal.returns-then-entries-low-clause-wrong
returns-then-entries-low-clause-wrong c = (
  c.broken-then-entries-low.ensures,
  no_array c.args.low c.args.high _ c.as_slice-entries.result.now (rw c.as_slice-entries.ensures.value c.in-Some.ensures) (elim c.then-entries-low.branch [
    | then-entries-low-via-then-entries-low w ↦ inl w.if-entries-low.true
    | then-entries-low-via-else-entries-low+then-high-entries w ↦ inr w.if-high-entries.true
  ]),
)

pub returns-clause-entries : goal.returns-clause-entries
returns-clause-entries c = entries_of-values _ c.as_slice-entries.result.now (rw c.as_slice-entries.ensures.value c.in-Some.ensures)

-- it has as many as it may have
pub returns-clause-right : goal.returns-clause-right
returns-clause-right c =
    is_array c.args.low c.args.high _ c.as_slice-entries.result.now (rw c.as_slice-entries.ensures.value c.in-Some.ensures)
    c.if-entries-low.false c.if-high-entries.false
