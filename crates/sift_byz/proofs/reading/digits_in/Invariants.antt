use Rattle.std.proofs.Common.{◌≡◌, Some, take, length}
use Rattle.sift_document.specs.Document.{digit_to, each_read}
use Rattle.sift_byz.proofs.reading.digits_in.Given as goal

-- the numbers so far
abbrev pub invariant-loop-byte : goal.invariant-loop-byte
invariant-loop-byte g l = record {
  read : each_read (digit_to 9) (take l.byte-index l.byte-items) ≡ Some l.digits.items;
  long : length l.digits.items ≡ l.byte-index;
}
