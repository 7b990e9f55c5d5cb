use Rattle.std.proofs.Common.{◌≡◌, ℕ, ◌+◌, ◌++◌, ◌∷◌, [], map, refl, ap, sym, ◌∙◌, arith}
use Rattle.std.proofs.lemmas.List.{map-append}
use Rattle.std.specs.List.{range_with_len}
use Rattle.std.proofs.lemmas.Grind.{common_steps}
use Rattle.toml.specs.Data.{Data}
use Rattle.toml.specs.View.{view}
use Rattle.sift_base.specs.Draw.{after, draw_at, drawn, next_number}
use Rattle.sift_base.specs.Word.{word_count}
use Rattle.sift_base.specs.laws.Draws.{after-more, after-none}
use Rattle.sift_gen.specs.Scenario.{number, sensor_words}
use Rattle.sift_gen.proofs.Listing.{map-more}
use Rattle.sift_gen.proofs.scenario.drawn_words.Goals as goal

-- no words yet, and no draws
pub loop-init : goal.loop-init
loop-init c = record { made = rw c.new-words.ensures.items refl; drawn = sym (after-none c.args.draw.now) }

-- one word more, and one draw
pub loop-preserved : goal.loop-preserved
loop-preserved c =
    let x = c.args.draw.now in
    let n = c.loop.counter in
    let v = c.from.result in
    let word_at : ℕ → Data = λ i. number (draw_at x i word_count) in
    let next : c.draw-word.new.self ≡ after x (n + 1) =
    c.draw-word.ensures.next ∙ (ap next_number c.loop.invariant.drawn ∙ sym (after-more x n)) in
    let word : view v ≡ word_at n = c.from.ensures ∙ ap number (c.draw-word.ensures.drawn ∙ ap (λ y. drawn y word_count) next) in
    record {
      made =
          ap (map view) c.in_ok-push.ensures.items ∙ (map-append view c.loop.words.items (v ∷ [])
          ∙ (ap (λ xs. xs ++ view v ∷ []) c.loop.invariant.made
          ∙ (ap (λ d. map word_at (range_with_len 0 n) ++ d ∷ []) word ∙ sym (map-more word_at n))));
      drawn = next;
    }

-- they are sixteen
pub returns-clause-made : goal.returns-clause-made
unfolding sensor_words
returns-clause-made c =
    let done : c.loop.counter ≡ 16 = omega arith in
    c.loop.invariant.made ∙ ap (λ n. map (λ i. number (draw_at c.args.draw.now i word_count)) (range_with_len 0 n)) done

pub returns-clause-drawn : goal.returns-clause-drawn
returns-clause-drawn c = grind (arith, common_steps)
