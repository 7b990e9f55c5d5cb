use Rattle.std.proofs.Common.{codes, ◌≡◌, [], ◌∷◌, refl, ap, ◌∙◌}
use Rattle.std.proofs.lemmas.Result.{IfOk-weaker}
use Rattle.toml.specs.Data.{member, no_members, table}
use Rattle.toml.specs.View.{members_view, table_view, view}
use Rattle.toml.specs.declared.value.Value.{Table}
use Rattle.toml.proofs.Views.{view-Table}
use Rattle.sift_base.specs.Draw.{draw_at}
use Rattle.sift_base.specs.Word.{word_count}
use Rattle.sift_gen.specs.Scenario.{array_of, fault_item, number, placed}
use Rattle.sift_gen.proofs.Drawing.{after-next, draw-next}
use Rattle.sift_gen.proofs.scenario.fault_table.Goals as goal

-- four draws, one after the other, and the entries of what they give
pub returns : goal.returns
returns c =
    let x = c.args.draw.now in
    let units = c.args.units in
    let one = c.drawn-unit.ensures.next in
    let two = after-next x _ _ 1 2 one c.drawn-from.ensures.next refl in
    let three = after-next x _ _ 2 3 two c.drawn-task.ensures.next refl in
    let unit : c.drawn-unit.result ≡ draw_at x 0 units = c.drawn-unit.ensures.drawn in
    let from : c.drawn-from.result ≡ draw_at x 1 c.args.frames = c.drawn-from.ensures.drawn ∙ draw-next x _ 1 c.args.frames one in
    let task : c.drawn-task.result ≡ draw_at x 2 c.args.tasks = c.drawn-task.ensures.drawn ∙ draw-next x _ 2 c.args.tasks two in
    let value : c.drawn-value.result ≡ draw_at x 3 word_count = c.drawn-value.ensures.drawn ∙ draw-next x _ 3 word_count three in
    let item : view (Table c.in_ok-fault_item.field-0) ≡ fault_item units (draw_at x 0 units) (draw_at x 2 c.args.tasks) (draw_at x 3 word_count) =
    view-Table c.in_ok-fault_item.field-0 ∙ (c.in_ok-fault_item.ensures ∙ (λ i. fault_item units (unit i) (task i) (value i))) in
    let say = c.in_ok-array_of_one.ensures ∙ ap (λ d. array_of (d ∷ [])) item in
    let first : table_view c.in_ok-entries.entries ≡ member (codes "unit") (number (draw_at x 0 units)) no_members =
    c.in_ok-entries.ensures ∙ (λ i. placed (codes "unit") (number (unit i)) (members_view (c.new.ensures.empty i))) in
    let second : table_view c.in_ok-entries-2.entries ≡ placed (codes "from") (number (draw_at x 1 c.args.frames)) (member (codes "unit") (number (draw_at x 0 units)) no_members) =
    c.in_ok-entries-2.ensures ∙ (λ i. placed (codes "from") (number (from i)) (first i)) in
    IfOk-weaker c.with.result _ _ (λ entries made. ap table (made ∙ (λ i. placed (codes "say") (say i) (second i)))) c.with.ensures
