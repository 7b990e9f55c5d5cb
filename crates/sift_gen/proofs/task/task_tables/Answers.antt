use Rattle.std.proofs.Common.{◌≡◌, ℕ, ◌++◌, ◌∷◌, [], map, ap, sym, ◌∙◌, add-one}
use Rattle.std.proofs.lemmas.List.{map-append}
use Rattle.std.specs.List.{range_with_len}
use Rattle.toml.specs.Data.{Data}
use Rattle.toml.specs.View.{view}
use Rattle.toml.specs.declared.value.Value.{Table}
use Rattle.toml.proofs.Views.{view-Table}
use Rattle.sift_base.specs.Draw.{after}
use Rattle.sift_gen.specs.Tasks.{draws_by}
use Rattle.sift_gen.specs.Scenario.{pattern_from, task_place, task_table}
use Rattle.sift_gen.proofs.Listing.{map-more}
use Rattle.sift_gen.proofs.task.task_tables.Goals as goal

-- one task more, and its draws
pub loop-task-preserved : goal.loop-task-preserved
loop-task-preserved c =
    let x = c.args.draw.now in
    let t = c.loop-task.task in
    let entries = c.in_ok-task_table.field-0 in
    let table_at : ℕ → Data = λ i. task_table i c.args.sensors (task_place i x) in
    let v = Table entries in
    let one : view v ≡ table_at t =
    view-Table entries ∙ (c.in_ok-task_table.ensures.made ∙ ap (task_table t c.args.sensors) c.loop-task.invariant.drawn) in
    record {
      made =
          ap (map view) c.in_ok-push.ensures.items ∙ (map-append view c.loop-task.tables.items (v ∷ [])
          ∙ (ap (λ xs. xs ++ view v ∷ []) c.loop-task.invariant.made
          ∙ (ap (λ d. map table_at (range_with_len 0 t) ++ d ∷ []) one ∙ sym (map-more table_at t))));
      drawn =
          c.in_ok-task_table.ensures.drawn
          ∙ (ap (λ y. after (after y 2) (draws_by (pattern_from t y))) c.loop-task.invariant.drawn ∙ ap (λ n. task_place n x) (sym (add-one t)));
    }
