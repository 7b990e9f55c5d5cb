use Rattle.std.proofs.Common.{◌≡◌, ◌++◌, map, take, string_bytes}
use Rattle.sift_line.specs.Part.{unit_digit}
use Rattle.sift_line.proofs.print.push_units.Given as goal

-- the units so far are written
abbrev pub invariant-loop-unit : goal.invariant-loop-unit
invariant-loop-unit l = string_bytes l.text ≡ string_bytes l.initial.text ++ map unit_digit (take l.unit-index l.units)
