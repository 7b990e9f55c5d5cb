use Rattle.std.proofs.Common.{◌≡◌, ap, arith, below_more, length}
use Rattle.std.proofs.lemmas.List.{length-map}
use Rattle.std.proofs.lemmas.Grind.{common_steps}
use Rattle.sift_script.proofs.Bounds.{entries_are_few}
use Rattle.sift_script.specs.Parts.{script_of}
use Rattle.sift_base.specs.Requirement.{AreMet}
use Rattle.sift_script.specs.Rules.{entry_rules}
use Rattle.sift_script.specs.Script.{FaultScript, fault_of}
use Rattle.sift_script.proofs.checked.check.Goals as goal

pub overflow_cast-result : goal.overflow_cast-result
overflow_cast-result c =
    let parts = c.of-parts.result in
    let units : parts.layout.units ≡ c.args.layout.now.units = ap (λ script. script.layout.units) c.of-parts.ensures in
    let inside = length-map parts.script.entries.items fault_of in
    omega (arith, units, entries_are_few (script_of parts) c.loop-at.at (omega (arith, inside)) c.loop-at.invariant)

pub returns-in-Some-clause-broken : goal.returns-in-Some-clause-broken
returns-in-Some-clause-broken c = rw (← c.of-parts.ensures) (record {
  inside = omega (arith, length-map c.of-parts.result.script.entries.items fault_of, ap (λ (script : FaultScript). length script.faults) c.of-parts.ensures);
  before = c.loop-at.invariant;
  broken = c.in-Some.ensures.broken;
})

pub loop-at-preserved : goal.loop-at-preserved
loop-at-preserved c = below_more (λ at. AreMet (entry_rules (script_of c.of-parts.result) at)) c.loop-at.at c.loop-at.invariant c.in_default.ensures.met

pub invariant_of-result : goal.invariant_of-result
invariant_of-result c = (λ at low. c.loop-at.invariant at (omega (arith, length-map c.of-parts.result.script.entries.items fault_of)), rw (← c.deref.ensures.0) c.first_words-first_words.ensures)

pub returns-clause-good : goal.returns-clause-good
returns-clause-good c = λ at low. c.loop-at.invariant at (omega (arith, length-map c.of-parts.result.script.entries.items fault_of))

pub broken_rule-requires : goal.broken_rule-requires
broken_rule-requires c = grind (arith, common_steps)
