use Rattle.std.proofs.Common.{◌≡◌, ap, ◌∙◌}
use Rattle.std.proofs.lemmas.Result.{IfOk-weaker}
use Rattle.sift_base.specs.Draw.{after, draw_at}
use Rattle.sift_base.specs.laws.Draws.{after-after}
use Rattle.sift_gen.proofs.Drawing.{draw-after}
use Rattle.sift_gen.proofs.task.Pattern.text.Goals as goal

-- the second draw
pub returns-in-Middle-clause-made : goal.returns-in-Middle-clause-made
returns-in-Middle-clause-made c =
    let x = c.args.draw.now in
    let first = c.drawn-first.ensures.drawn in
    let second : c.drawn-in-Middle.result ≡ draw_at x 1 c.args.sensors =
    c.drawn-in-Middle.ensures.drawn ∙ (ap (λ y. draw_at y 0 c.args.sensors) c.drawn-first.ensures.next ∙ draw-after x 1 0 c.args.sensors) in
    rw c.in-Middle.is (rw (first, second) at c.middle_text.ensures)

pub returns-in-Middle-clause-drawn : goal.returns-in-Middle-clause-drawn
returns-in-Middle-clause-drawn c =
    let x = c.args.draw.now in
    let two : c.drawn-in-Middle.new.draw ≡ after x 2 =
    c.drawn-in-Middle.ensures.next ∙ (ap (λ y. after y 1) c.drawn-first.ensures.next ∙ after-after x 1 1) in
    rw c.in-Middle.is (IfOk-weaker c.middle_text.result _ _ (λ text made. two) c.middle_text.ensures)

pub returns-in-Triple-clause-made : goal.returns-in-Triple-clause-made
returns-in-Triple-clause-made c =
    let x = c.args.draw.now in
    let first = c.drawn-earlier.ensures.drawn in
    let second : c.drawn-in-Triple.result ≡ draw_at x 1 c.args.sensors =
    c.drawn-in-Triple.ensures.drawn ∙ (ap (λ y. draw_at y 0 c.args.sensors) c.drawn-earlier.ensures.next ∙ draw-after x 1 0 c.args.sensors) in
    rw c.in-Triple.is (rw (first, second) at c.triple_text.ensures)

pub returns-in-Triple-clause-drawn : goal.returns-in-Triple-clause-drawn
returns-in-Triple-clause-drawn c =
    let x = c.args.draw.now in
    let two : c.drawn-in-Triple.new.draw ≡ after x 2 =
    c.drawn-in-Triple.ensures.next ∙ (ap (λ y. after y 1) c.drawn-earlier.ensures.next ∙ after-after x 1 1) in
    rw c.in-Triple.is (IfOk-weaker c.triple_text.result _ _ (λ text made. two) c.triple_text.ensures)
