use Rattle.std.proofs.Common.{◌≡◌, ◌++◌, take, string_bytes}
use Rattle.std.specs.Fmt.{decimal}
use Rattle.std.specs.List.{flat_map}
use Rattle.sift_planner.proofs.text.push_positions.Given as goal

-- the positions so far are written
abbrev pub invariant-loop-position : goal.invariant-loop-position
invariant-loop-position l = string_bytes l.text ≡ string_bytes l.initial.text ++ flat_map decimal (take l.position-index l.positions)
