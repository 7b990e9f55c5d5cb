use Rattle.std.proofs.Common.{◌==◌, rules, sym, tests, ◌∙◌}
use Rattle.std.proofs.lemmas.Iterator.{YieldsList-from_slice}
use Rattle.std.proofs.lemmas.Iterator.Search.{any_from_yields_List}
use Rattle.sift_script.proofs.Lists.{list_any-map}
use Rattle.sift_script.specs.declared.script.Entry.{Entry}
use Rattle.sift_script.proofs.rules.is_named.Goals as goal

pub returns : goal.returns
returns c =
    any_from_yields_List (λ (entry : Entry). entry.unit == c.args.unit) _ _ c.any.result c.any.ensures.ran (YieldsList-from_slice c.args.entries.now cc) (λ x b q k. search (rules, tests))
    ∙ sym (list_any-map (λ (entry : Entry). entry.unit) (λ v. v == c.args.unit) c.args.entries.now)
