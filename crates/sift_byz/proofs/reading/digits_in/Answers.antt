use Rattle.std.proofs.Common.{◌≡◌, ◌∙◌, None, List, ℕ, ap, arith, sym}
use Rattle.std.proofs.lemmas.List.{take_all}
use Rattle.sift_document.specs.Document.{digit_to, each_read}
use Rattle.sift_document.specs.laws.ReadEntries.{each_read-none, length-each_read, read-step}
use Rattle.sift_byz.proofs.Testing.{none_some}
use Rattle.sift_byz.proofs.reading.digits_in.Goals as goal

-- a text of more bytes is none of fewer digits
pub returns-then-text-clause-none : goal.returns-then-text-clause-none
returns-then-text-clause-none g c digits read = omega (arith, length-each_read (digit_to 9) c.args.text.now digits read)

-- a byte that is no digit spoils the text
pub returns-in_err-digit_to-clause-none : goal.returns-in_err-digit_to-clause-none
returns-in_err-digit_to-clause-none g c =
    let bytes : List ℕ = c.as_bytes-byte-items.result.now in
    let none : each_read (digit_to 9) bytes ≡ None = each_read-none (digit_to 9) bytes c.loop-byte.byte-index 0 c.loop-byte-test.true (sym c.in_err-digit_to.ensures) in
    rw c.from_residual.ensures (λ digits read. absurd (none_some {x = digits} (sym none) (rw c.as_bytes-byte-items.ensures.value read)))

pub returns-in_err-digit_to-clause-found : goal.returns-in_err-digit_to-clause-found
returns-in_err-digit_to-clause-found g c = rw c.from_residual.ensures tt

-- all digits
pub returns-clause-found : goal.returns-clause-found
returns-clause-found g c =
    ap (each_read (digit_to 9)) (sym (take_all c.loop-byte.byte-index c.as_bytes-byte-items.result.now c.loop-byte-test.false ∙ c.as_bytes-byte-items.ensures.value))
    ∙ c.loop-byte.invariant.read

-- one digit more
pub loop-byte-preserved : goal.loop-byte-preserved
loop-byte-preserved g c =
    record {
      read = rw c.push.ensures.items (read-step (digit_to 9) c.as_bytes-byte-items.result.now c.loop-byte.byte-index 0 _ _
          c.loop-byte-test.true c.loop-byte.invariant.read (sym c.in_ok-digit_to.ensures));
      long = omega (arith, c.push.ensures.len, c.loop-byte.invariant.long);
    }
