use Rattle.std.proofs.Common.{◌≡◌, replicate}
use Rattle.sift_lang.proofs.evaluator.State.new.Given as goal

abbrev pub invariant-loop-output : goal.invariant-loop-output
invariant-loop-output l = l.outs.items ≡ replicate l._output 0
