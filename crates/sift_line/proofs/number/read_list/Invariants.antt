use Rattle.std.proofs.Common.{◌==◌, ◌≤◌, length}
use Rattle.std.specs.List.{slice_split}
use Rattle.sift_line.proofs.Reading.{IsRead}
use Rattle.sift_line.proofs.number.read_list.Given as goal

-- the parts so far, for which there is room
abbrev pub invariant-loop-part : goal.invariant-loop-part
invariant-loop-part g l =
    IsRead g.T.Part.text_of g.T.Part.IsPart (slice_split (λ b. b == 44) l.fn.text) (length l.yielded) l.list.items × (length l.list.items ≤ g.row.N)
