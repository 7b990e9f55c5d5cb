use Rattle.std.proofs.Common.{◌≡◌}
use Rattle.sift_line.proofs.read.split_fields.Given as goal

-- the fields so far
abbrev pub invariant-loop-field : goal.invariant-loop-field
invariant-loop-field l = l.fields.items ≡ l.yielded
