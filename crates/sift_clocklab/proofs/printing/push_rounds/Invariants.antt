use Rattle.std.proofs.Common.{◌≡◌, ◌++◌, take, string_bytes}
use Rattle.sift_clocklab.specs.Text.{round_lines}
use Rattle.sift_clocklab.proofs.printing.push_rounds.Given as goal

-- the lines of the rounds so far
abbrev pub invariant-loop-round : goal.invariant-loop-round
invariant-loop-round l = string_bytes l.text ≡ string_bytes l.fn.text ++ round_lines 0 (take l.round l.skews)
