use Rattle.std.proofs.Common.{◌≡◌, drop, take, false}
use Rattle.sift_base.specs.Units.{members, has}
use Rattle.sift_config.proofs.config.Config.position_of.Given as goal

-- the rest are the members from the position on, and the unit is none before it
abbrev pub invariant-loop-position : goal.invariant-loop-position
invariant-loop-position l = (members l.rest ≡ drop l.position l.fn.self) × (has (take l.position l.fn.self) l.fn.u ≡ false)
