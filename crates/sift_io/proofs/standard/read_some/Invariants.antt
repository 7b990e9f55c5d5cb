use Rattle.std.proofs.Common.{◌≡◌, length}
use Rattle.sift_io.proofs.Hearing.{HasRead, left_to_hear}
use Rattle.sift_io.proofs.standard.read_some.Given as goal

-- what is told is right, and the buffer keeps its length
abbrev pub invariant-loop-heard : goal.invariant-loop-heard
invariant-loop-heard g l =
    (length l.buf ≡ length l.initial.buf)
    × HasRead l.heard.told l.heard.interruptions (g.R.Read.remaining l.initial.input) (g.R.Read.remaining l.input) l.buf

abbrev pub decreases-loop-heard : goal.decreases-loop-heard
decreases-loop-heard g l = left_to_hear l.heard.told l.heard.interruptions
