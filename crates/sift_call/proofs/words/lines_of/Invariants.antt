use Rattle.std.proofs.Common.{◌≡◌, map, string_bytes, ◌++◌, length}
use denote.Text.{Utf8}
use denote.Shadow.{shadow}
use Rattle.sift_call.specs.Words.{lines}
use Rattle.sift_call.proofs.words.lines_of.Given as goal

-- the lines that were found, and those of the rest
abbrev pub invariant-loop-rest : goal.invariant-loop-rest
invariant-loop-rest l = shadow (Utf8 l.rest) × (map string_bytes l.found.items ++ lines l.rest ≡ lines l.text)

abbrev pub decreases-loop-rest : goal.decreases-loop-rest
decreases-loop-rest l = length l.rest
