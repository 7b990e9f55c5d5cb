use Rattle.std.proofs.Common.{arith}
use Rattle.sift_code.proofs.refusal.is_too_many.Goals as goal

pub returns-else-matches : goal.returns-else-matches
returns-else-matches c = grind arith

pub returns-then-matches : goal.returns-then-matches
returns-then-matches c = grind arith
