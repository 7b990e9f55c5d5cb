use Rattle.std.proofs.Common.{◌≡◌, rules, sym, tests, ap, ◌∙◌, ◌==◌}
use Rattle.std.proofs.lemmas.Iterator.{YieldsList-from_slice}
use Rattle.std.proofs.lemmas.Iterator.Search.{find_from_yields_List}
use Rattle.std.specs.List.{find}
use Rattle.std.specs.Option.{option_map}
use Rattle.sift_script.proofs.Lists.{find-map, option_map-twice}
use Rattle.sift_script.specs.Script.{Fault, fault_of}
use Rattle.sift_script.specs.declared.script.Entry.{Entry}
use Rattle.sift_script.proofs.script.Parts.entry_of.Goals as goal

pub returns : goal.returns
returns c =
    let test = λ (fault : Fault). fault.unit == c.args.u in
    let entries = c.args.self.now.script.entries.items in
    let here = λ (entry : Entry). test (fault_of entry) in
    let found : option_map (λ entry. entry.now) c.find.result ≡ find here entries =
    find_from_yields_List here _ _ c.find.result c.find.ensures.ran (YieldsList-from_slice entries cc) (λ x b q k. search (rules, tests)) in
    sym (option_map-twice _ fault_of c.find.result) ∙ ap (option_map fault_of) found ∙ sym (find-map fault_of test entries)
