use Rattle.std.proofs.Common.{arith}
use Rattle.sift_call.proofs.Lines.{cut, last_line}
use Rattle.sift_call.proofs.words.first_line.Goals as goal

-- the first line ends at the first line feed
pub returns-in-Some-clause-first : goal.returns-in-Some-clause-first
returns-in-Some-clause-first c = let at = c.in-Some.ensures.byte (omega arith) (λ w o found. found) in
    rw at.0 (rw at.1 (cut c.args.text.now at.2))

-- or with the text
pub returns-in-None-clause-first : goal.returns-in-None-clause-first
returns-in-None-clause-first c = last_line c.args.text.now c.requires (c.in-None.ensures.byte (omega arith) (λ w o found. found))
