use Rattle.std.proofs.Common.{◌≡◌, replicate}
use Rattle.sift_code.proofs.machine.clear_outs.Given as goal

-- so many words so far
abbrev pub invariant-loop-output : goal.invariant-loop-output
invariant-loop-output l = l.outs.items ≡ replicate l._output 0
