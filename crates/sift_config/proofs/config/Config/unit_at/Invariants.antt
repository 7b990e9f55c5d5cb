use Rattle.std.proofs.Common.{◌≡◌, drop}
use Rattle.sift_base.specs.Units.{members}
use Rattle.sift_config.proofs.config.Config.unit_at.Given as goal

-- the rest are the members without as many first ones
abbrev pub invariant-loop : goal.invariant-loop
invariant-loop l = members l.rest ≡ drop l.counter l.fn.self
