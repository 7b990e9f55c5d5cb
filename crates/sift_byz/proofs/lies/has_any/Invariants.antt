use Rattle.std.proofs.Common.{◌≡◌, drop}
use Rattle.std.specs.List.{list_any}
use Rattle.sift_base.specs.Units.{has}
use Rattle.sift_byz.proofs.lies.has_any.Given as goal

-- it is up to the units that are left
abbrev pub invariant-loop-unit : goal.invariant-loop-unit
invariant-loop-unit l = record { left : list_any (has l.path) (drop l.unit-index l.units) ≡ list_any (has l.path) l.units }
