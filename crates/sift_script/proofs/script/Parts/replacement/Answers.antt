use Rattle.std.proofs.Common.{◌≡◌, ap, rules, sym, tests, ◌∙◌}
use Rattle.std.proofs.lemmas.Iterator.{YieldsList-from_slice}
use Rattle.std.proofs.lemmas.Iterator.Search.{find_from_yields_List}
use Rattle.std.specs.List.{find}
use Rattle.std.specs.Option.{option_map}
use Rattle.sift_script.proofs.Lists.{find-map, option_map-twice}
use Rattle.sift_script.specs.Faults.{fits}
use Rattle.sift_script.specs.Script.{Change, change_of}
use Rattle.sift_script.specs.declared.script.Item.{Item}
use Rattle.sift_script.proofs.script.Parts.replacement.Goals as goal

pub returns : goal.returns
returns c =
    let test = fits c.args.self.now.outputs.items c.args.f c.args.slot c.args.to in
    let value = λ (change : Change). change.value in
    let items = c.args.items.now in
    let here = λ (item : Item). test (change_of item) in
    let found : option_map (λ item. item.now) c.find.result ≡ find here items =
    find_from_yields_List here _ _ c.find.result c.find.ensures.ran (YieldsList-from_slice items cc) (λ x b q k. search (rules, tests)) in
    let mapped : c.map.result ≡ option_map (λ item. value (change_of item.now)) c.find.result = search rules in
    mapped ∙ sym (option_map-twice _ (λ (item : Item). value (change_of item)) c.find.result) ∙ ap (option_map (λ (item : Item). value (change_of item))) found
    ∙ sym (option_map-twice change_of value _) ∙ ap (option_map value) (sym (find-map change_of test items))
