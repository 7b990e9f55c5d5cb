use Rattle.std.proofs.Common.{◌≡◌, string_bytes}
use Rattle.sift_gen.specs.Scenario.{other_digits}
use Rattle.sift_gen.proofs.scenario.other_digits.Given as goal

-- the digits so far
abbrev pub invariant-loop-other : goal.invariant-loop-other
invariant-loop-other l = string_bytes l.digits ≡ other_digits l.other-counter l.unit
