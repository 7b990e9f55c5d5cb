use Rattle.std.proofs.Common.{◌<◌, arith, length}
use Rattle.std.proofs.lemmas.List.{length-map}
use Rattle.sift_script.proofs.Views.{each_change, fault_of-at, no_fault}
use Rattle.sift_script.specs.Parts.{script_of}
use Rattle.sift_script.specs.Rules.{IsThere}
use Rattle.sift_script.specs.Script.{Change, Fault, change_of, fault_of}
use Rattle.std.proofs.Common.{map}
use Rattle.sift_script.proofs.rules.has_places.Goals as goal

pub returns : goal.returns
returns c =
    let entries = c.args.parts.now.script.entries.items in
    let low : c.args.at < length entries = omega (arith, c.requires, length-map entries fault_of) in
    each_change (λ (fault : Fault) (change : Change). IsThere (script_of c.args.parts.now) fault.from change) (script_of c.args.parts.now) c.args.at (fault_of c.index-entry.result.now)
    (map change_of c.items_of.result.now) c.are_there.result
    (fault_of-at entries c.args.at c.index-entry.result.now no_fault low c.index-entry.ensures) c.items_of.ensures c.are_there.ensures
