use Rattle.std.proofs.Common.{ℕ, ◌<◌}
use Rattle.sift_script.specs.Parts.{script_of}
use Rattle.sift_base.specs.Requirement.{AreMet}
use Rattle.sift_script.specs.Rules.{entry_rules}
use Rattle.sift_script.proofs.checked.check.Given as goal

-- each entry before the one at hand meets all rules
abbrev pub invariant-loop-at : goal.invariant-loop-at
invariant-loop-at l = (k : ℕ) → k < l.at → AreMet (entry_rules (script_of l.parts) k)
