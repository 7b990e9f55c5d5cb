use Rattle.std.proofs.Common.{sym}
use Rattle.sift_document.specs.Document.{digit_to}
use Rattle.sift_document.specs.laws.ReadEntries.{each_read-none, read-all, read-step}
use Rattle.sift_document.proofs.value.digits_in.Goals as goal

-- a byte is no such digit
pub returns-in-None : goal.returns-in-None
returns-in-None c =
    rw (← c.as_bytes-byte-items.ensures.value)
    (sym (each_read-none (digit_to c.args.last) c.as_bytes-byte-items.result.now c.loop-byte.byte-index 0 c.loop-byte-test.true (sym c.in-None.ensures)))

-- one digit more
pub loop-byte-preserved : goal.loop-byte-preserved
loop-byte-preserved c =
    rw c.in_ok-push-in-Some.ensures.items
    (read-step (digit_to c.args.last) c.as_bytes-byte-items.result.now c.loop-byte.byte-index 0 _ _ c.loop-byte-test.true c.loop-byte.invariant (sym c.in-Some.ensures))

-- all bytes were read
pub returns : goal.returns
returns c =
    rw (← c.as_bytes-byte-items.ensures.value)
    (sym (read-all (digit_to c.args.last) c.as_bytes-byte-items.result.now c.loop-byte.byte-index _ c.loop-byte-test.false c.loop-byte.invariant))
