use Rattle.std.proofs.Common.{sym}
use Rattle.sift_document.specs.laws.Arrays.{array_from, list_of-view}
use Rattle.sift_document.proofs.value.entries_in.Goals as goal

-- the entries of an array are the values that it holds
pub returns-in-Some : goal.returns-in-Some
returns-in-Some c = rw (array_from _ _ c.in-Some.ensures, c.as_slice.ensures.value) (sym (list_of-view _))
