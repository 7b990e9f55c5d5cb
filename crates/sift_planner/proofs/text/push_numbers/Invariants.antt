use Rattle.std.proofs.Common.{◌≡◌, ◌++◌, map, take, string_bytes}
use Rattle.std.specs.Fmt.{decimal}
use Rattle.sift_planner.specs.Text.{listed}
use Rattle.sift_planner.proofs.text.push_numbers.Given as goal

-- the numbers so far are written
abbrev pub invariant-loop-place : goal.invariant-loop-place
invariant-loop-place l = string_bytes l.text ≡ string_bytes l.initial.text ++ listed (map decimal (take l.place l.numbers))
