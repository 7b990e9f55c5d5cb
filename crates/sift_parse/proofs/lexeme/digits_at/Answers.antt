use Rattle.std.proofs.Common.{arith}
use Rattle.sift_parse.specs.Written.{ten, sixteen}
use Rattle.sift_parse.proofs.lexeme.digits_at.Goals as goal

pub returns-in-0 : goal.returns-in-0
returns-in-0 c = ten c.digits_len.result (c.hex_len.ensures.none c.in-0.is) c.digits_len.ensures

pub returns-in_default : goal.returns-in_default
returns-in_default c = sixteen c.hex_len.result (omega arith) (c.hex_len.ensures.some (omega arith))
