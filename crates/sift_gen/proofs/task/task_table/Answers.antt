use Rattle.std.proofs.Common.{◌≡◌, refl, ap, ◌∙◌, string_bytes}
use Rattle.std.proofs.lemmas.Result.{IfOk-weaker}
use Rattle.sift_base.specs.Draw.{after, draw_at}
use Rattle.sift_base.specs.Word.{word_count}
use Rattle.sift_gen.specs.Tasks.{draws_by, pattern_of, text_by}
use Rattle.sift_gen.specs.Scenario.{pattern_from}
use Rattle.sift_gen.proofs.Drawing.{after-next, draw-next}
use Rattle.sift_gen.proofs.task.task_table.Goals as goal

-- the start word, the pattern, and the draws of its text
pub returns-clause-made : goal.returns-clause-made
returns-clause-made c =
    let x = c.args.draw.now in
    let t = c.args.task in
    let one = c.drawn-start.ensures.next in
    let two = after-next x _ _ 1 2 one c.drawn.ensures.next refl in
    let start : c.drawn-start.result ≡ draw_at x 0 word_count = c.drawn-start.ensures.drawn in
    let pattern : c.of-pattern.result ≡ pattern_from t x =
    c.of-pattern.ensures ∙ ap (λ n. pattern_of n t) (c.drawn.ensures.drawn ∙ draw-next x _ 1 4 one) in
    let text : string_bytes c.in_ok-text.text ≡ text_by (pattern_from t x) t c.args.sensors (after x 2) =
    c.in_ok-text.ensures.made ∙ (ap (λ p. text_by p t c.args.sensors c.drawn.new.draw) pattern ∙ ap (text_by (pattern_from t x) t c.args.sensors) two) in
    rw (start, text) at c.task_entries.ensures

pub returns-clause-drawn : goal.returns-clause-drawn
returns-clause-drawn c =
    let x = c.args.draw.now in
    let t = c.args.task in
    let one = c.drawn-start.ensures.next in
    let two = after-next x _ _ 1 2 one c.drawn.ensures.next refl in
    let pattern : c.of-pattern.result ≡ pattern_from t x =
    c.of-pattern.ensures ∙ ap (λ n. pattern_of n t) (c.drawn.ensures.drawn ∙ draw-next x _ 1 4 one) in
    let all : c.text.new.draw ≡ after (after x 2) (draws_by (pattern_from t x)) =
    c.in_ok-text.ensures.drawn ∙ (ap (λ p. after c.drawn.new.draw (draws_by p)) pattern ∙ ap (λ y. after y (draws_by (pattern_from t x))) two) in
    IfOk-weaker c.task_entries.result _ _ (λ entries made. all) c.task_entries.ensures
