use denote.Shadow.{shadow}
use denote.Text.{Utf8}
use Rattle.std.proofs.Common.{string_bytes}
use Rattle.sift_reread.proofs.Lines.{IsReadTo}
use Rattle.sift_reread.proofs.reread.reread_in.Given as goal

-- the lines so far are printed, and the rest is text
abbrev pub invariant-loop-lines : goal.invariant-loop-lines
invariant-loop-lines l = IsReadTo l.version l.report (string_bytes l.text) l.rest l.lines × shadow (Utf8 l.rest)
