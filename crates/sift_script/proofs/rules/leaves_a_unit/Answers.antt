use Rattle.std.proofs.Common.{◌≡◌, ◌+◌, arith, false, refl, sym, true, ◌∙◌}
use Rattle.std.proofs.lemmas.Bool.{false≢true}
use Rattle.sift_base.specs.Units.{has}
use Rattle.sift_script.proofs.Views.{units_named-entries}
use Rattle.sift_script.specs.Rules.{units_named}
use Rattle.sift_script.specs.Script.{faults_of}
use Rattle.sift_script.proofs.rules.leaves_a_unit.Goals as goal

pub returns-then-not-is_named : goal.returns-then-not-is_named
returns-then-not-is_named c =
    let parts = c.args.parts.now in
    let left : has (units_named (faults_of parts.script) (c.args.at + 1)) c.loop-unit.unit ≡ false =
    rw (units_named-entries parts.script.entries.items (c.args.at + 1), ← c.deref.ensures.value) (sym c.is_named.ensures ∙ c.if-not-is_named.true) in
    (λ _. (c.loop-unit.unit, c.loop-unit-test.true, left), λ _. refl)

pub returns : goal.returns
returns c = (
  λ e. absurd (false≢true e),
  λ left. absurd (
      let parts = c.args.parts.now in
      let named : has (units_named (faults_of parts.script) (c.args.at + 1)) left.0 ≡ true =
      rw (units_named-entries parts.script.entries.items (c.args.at + 1), ← c.deref.ensures.value) (c.loop-unit.invariant left.0 (omega (arith, left.1))) in
      false≢true (sym left.2 ∙ named)
      ),
)
