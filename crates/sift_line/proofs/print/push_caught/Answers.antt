use Rattle.std.proofs.Common.{◌≡◌, ◌++◌, map, string_bytes, subst, sym, ap, ◌∙◌}
use Rattle.std.specs.Result.{OnOk}
use Rattle.sift_line.specs.Bad.{catch_text, caught_text}
use Rattle.sift_line.specs.Part.{list_text}
use Rattle.sift_line.proofs.Catches.{catches_are}
use Rattle.sift_line.proofs.print.push_caught.Goals as goal

pub returns-in-ByKind : goal.returns-in-ByKind
returns-in-ByKind c =
    let listed = c.deref-in-ByKind.ensures.0 ∙ c.catches_in.ensures in
    let text = ap (λ list. list_text (map catch_text list)) listed ∙ catches_are c.in-ByKind.caught ∙ ap caught_text (sym c.in-ByKind.is) in
    subst (λ bs. OnOk c.push_list.result (string_bytes c.push_list.new.text ≡ string_bytes c.args.text.now ++ bs)) text c.push_list.ensures
