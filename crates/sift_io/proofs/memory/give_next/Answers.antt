use Rattle.std.proofs.Common.{length-take, arith}
use Rattle.sift_io.proofs.Copies.{drop-copied}
use Rattle.sift_io.proofs.memory.give_next.Goals as goal

-- the bytes that were copied are the next
pub returns-clause-bytes : goal.returns-clause-bytes
returns-clause-bytes c =
    let n = c.min-n.result in
    drop-copied n c.args.at c.args.bytes.now _ _ (omega (arith, length-take n c.args.buf.now))
    c.copy_from_slice.ensures.after
