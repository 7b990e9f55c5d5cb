use Rattle.std.proofs.Common.{◌≡◌, not, rules, tests, sym, ◌∙◌}
use Rattle.std.proofs.lemmas.Iterator.{YieldsList-from_slice}
use Rattle.std.proofs.lemmas.Iterator.Search.{all_from_yields_List}
use Rattle.std.specs.List.{list_all}
use Rattle.sift_base.specs.Units.{has}
use Rattle.sift_table.proofs.Apart.{all_from_apart, apart_from_all}
use Rattle.sift_table.proofs.rules.are_apart.Goals as goal

pub returns : goal.returns
returns c =
    let some = c.args.some.now in
    let others = c.args.others.now in
    let answer : c.all.result ≡ list_all (λ p. not (has others p)) some =
    all_from_yields_List (λ p. not (has others p)) _ _ c.all.result c.all.ensures.ran
    (YieldsList-from_slice some cc) (λ x b q k. search (rules, tests)) in
    (λ all. apart_from_all some others (sym answer ∙ all), λ apart. answer ∙ all_from_apart some others apart)
