use Rattle.std.proofs.Common.{◌≡◌, Some, take}
use Rattle.sift_document.specs.Document.{digit_to, each_read}
use Rattle.sift_document.proofs.value.digits_in.Given as goal

-- the numbers so far
abbrev pub invariant-loop-byte : goal.invariant-loop-byte
invariant-loop-byte l = each_read (digit_to l.last) (take l.byte-index l.byte-items) ≡ Some l.list.items
