use Rattle.std.proofs.Common.{◌≡◌, ℕ, ◌*◌, ◌++◌, ◌∷◌, [], map, refl, ap, sym, ◌∙◌, arith}
use Rattle.std.proofs.lemmas.List.{map-append}
use Rattle.std.specs.List.{range_with_len}
use Rattle.toml.specs.Data.{Data}
use Rattle.toml.specs.View.{view}
use Rattle.toml.specs.declared.value.Value.{Table}
use Rattle.toml.proofs.Views.{view-Table}
use Rattle.sift_base.specs.Draw.{after}
use Rattle.sift_base.specs.laws.Draws.{after-after, after-none}
use Rattle.sift_gen.specs.Scenario.{sensor_table, words_each}
use Rattle.sift_gen.proofs.Listing.{map-more}
use Rattle.sift_gen.proofs.scenario.sensor_tables.Goals as goal

-- no sensors yet, and no draws
pub loop-k-init : goal.loop-k-init
loop-k-init c = record { made = rw c.new-tables.ensures.items refl; drawn = sym (after-none c.args.draw.now) }

-- one sensor more, and the draws of its words
pub loop-k-preserved : goal.loop-k-preserved
loop-k-preserved c =
    let x = c.args.draw.now in
    let k = c.loop-k.k in
    let entries = c.in_ok-sensor_table.field-0 in
    let table_at : ℕ → Data = λ i. sensor_table i (after x (words_each * i)) in
    let v = Table entries in
    let one : view v ≡ table_at k =
    view-Table entries ∙ (c.in_ok-sensor_table.ensures.made ∙ ap (sensor_table k) c.loop-k.invariant.drawn) in
    record {
      made =
          ap (map view) c.in_ok-push.ensures.items ∙ (map-append view c.loop-k.tables.items (v ∷ [])
          ∙ (ap (λ xs. xs ++ view v ∷ []) c.loop-k.invariant.made
          ∙ (ap (λ d. map table_at (range_with_len 0 k) ++ d ∷ []) one ∙ sym (map-more table_at k))));
      drawn =
          c.in_ok-sensor_table.ensures.drawn ∙ (ap (λ y. after y words_each) c.loop-k.invariant.drawn
          ∙ (after-after x (words_each * k) words_each ∙ ap (after x) (omega arith)));
    }
