use Rattle.sift_io.proofs.Hearing.{HasWritten, left_to_hear}
use Rattle.sift_io.proofs.standard.write_some.Given as goal

-- what is told is right
abbrev pub invariant-loop-heard : goal.invariant-loop-heard
invariant-loop-heard g l =
    HasWritten l.heard.told l.heard.interruptions (g.W.Write.contents l.initial.output) (g.W.Write.contents l.output) l.bytes

abbrev pub decreases-loop-heard : goal.decreases-loop-heard
decreases-loop-heard g l = left_to_hear l.heard.told l.heard.interruptions
