use Rattle.std.proofs.Common.{ap, not, nat_le, ◌==◌, ◌&&◌, rules, sym, tests, ◌∙◌}
use Rattle.std.proofs.lemmas.Iterator.{YieldsList-from_slice}
use Rattle.std.proofs.lemmas.Iterator.Search.{any_from_yields_List}
use Rattle.sift_script.proofs.Lists.{list_any-map}
use Rattle.sift_script.specs.Script.{Fault, fault_of}
use Rattle.sift_script.specs.declared.script.Entry.{Entry}
use Rattle.sift_script.proofs.script.Parts.is_faulty.Goals as goal

pub returns : goal.returns
returns c =
    let test = λ (fault : Fault). (fault.unit == c.args.u) && nat_le fault.from c.args.f in
    let entries = c.args.self.now.script.entries.items in
    ap not (any_from_yields_List (λ (entry : Entry). test (fault_of entry)) _ _ c.any.result c.any.ensures.ran (YieldsList-from_slice entries cc) (λ x b q k. search (rules, tests))
    ∙ sym (list_any-map fault_of test entries))
