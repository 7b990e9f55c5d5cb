use Rattle.std.proofs.Common.{◌≡◌, ◌<◌, arith, length, sym}
use Rattle.std.proofs.lemmas.List.{length-map}
use Rattle.sift_base.specs.Units.{has}
use Rattle.sift_script.proofs.Views.{fault_of-at, not_iff, units_named-entries, no_fault}
use Rattle.sift_script.specs.Parts.{script_of}
use Rattle.sift_script.specs.Rules.{fault_at, units_named}
use Rattle.sift_script.specs.Script.{fault_of, faults_of}
use Rattle.sift_script.proofs.rules.has_new_unit.Goals as goal

pub returns : goal.returns
returns c =
    let parts = c.args.parts.now in
    let entries = parts.script.entries.items in
    let low : c.args.at < length entries = omega (arith, c.requires, length-map entries fault_of) in
    let fault = fault_of-at entries c.args.at c.index.result.now no_fault low c.index.ensures in
    let test : has (units_named (faults_of parts.script) c.args.at) (fault_at (script_of parts) c.args.at).unit ≡ c.is_named.result =
    rw (units_named-entries entries c.args.at, fault, ← c.deref.ensures.value) (sym c.is_named.ensures) in
    not_iff _ c.is_named.result test
