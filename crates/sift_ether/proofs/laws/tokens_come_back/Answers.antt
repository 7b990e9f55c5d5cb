use Rattle.std.proofs.Common.{◌≡◌, ℕ, sym, ◌∙◌, subst}
use Rattle.atomic_table.specs.Seated.{TableId}
use Rattle.sift_base.specs.declared.slots.Layout.{Layout}
use Rattle.sift_ether.specs.Tokens.{IsAt, view_under}
use Rattle.sift_ether.proofs.laws.tokens_come_back.Goals as goal

pub returns : goal.returns
returns c e t t' s s' strays sat follows back =
    let grid : s'.grid ≡ e.grid = follows.grid ∙ sat.grid in
    let table : s'.reach.words.now.table_id ≡ e.table.shared.table_id = (λ i. (follows.words i).now.table_id) ∙ (λ i. (sat.words i).table_id) in record {
      of = subst (λ (x : TableId × Layout × ℕ). IsAt x.0 x.1 x.2 t') (λ i. (table i, (grid i).layout, (grid i).frames)) back.at;
      unit = back.unit ∙ (follows.unit ∙ sat.unit);
      view = (λ i. view_under (sym grid i).layout (sym grid i).frames t') ∙ back.view;
    }
