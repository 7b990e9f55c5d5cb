use Rattle.std.proofs.Common.{◌≤◌, false, Some, ap, sym, subst, ◌∙◌, string_bytes}
use Rattle.toml.specs.Data.{members_depth}
use Rattle.toml.specs.Text.{IsDocumentText}
use Rattle.sift_gen.proofs.Shallow.{shallow_tree}
use Rattle.sift_gen.proofs.scenario.scenario_text.Goals as goal

-- the tree is printed so, and its text reads back, since the tree isn't deep
pub returns-in-Ok : goal.returns-in-Ok
returns-in-Ok c =
    let same = c.in_ok-tree.ensures in
    record {
      printed = subst (λ t. IsDocumentText false t (string_bytes c.in-Ok.text)) same c.in-Ok.ensures.text;
      reads_back = c.in-Ok.ensures.reads_back (subst (λ t. members_depth t ≤ 80) (sym same) (shallow_tree c.args.number)) ∙ ap Some same;
    }
