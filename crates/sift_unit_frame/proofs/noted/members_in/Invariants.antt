use Rattle.std.proofs.Common.{◌≡◌, take}
use Rattle.std.specs.List.{filter}
use Rattle.sift_base.specs.Units.{holds}
use Rattle.sift_unit_frame.proofs.noted.members_in.Given as goal

-- the members among the units so far
abbrev pub invariant-loop-position : goal.invariant-loop-position
invariant-loop-position l = l.found.items ≡ filter (holds l.fn.set) (take l.position l.fn.config)
