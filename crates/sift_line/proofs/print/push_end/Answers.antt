use Rattle.std.proofs.Common.{append_assoc}
use Rattle.sift_line.proofs.print.push_end.Goals as goal

pub returns : goal.returns
returns c = simp append_assoc at (rw (c.in_ok-push_config.ensures, c.in_ok-write.ensures.bytes) at c.push_margin.ensures)
