use Rattle.std.proofs.Common.{◌≡◌, ◌+◌, Some, false, refl, sym, ap, ◌∙◌, w32, to_z, of_z, arith, rules}
use Rattle.std.proofs.lemmas.Int.{ints}
use Rattle.std.proofs.lemmas.Bool.{ne_eqb}
use Rattle.sift_base.specs.Draw.{after, drawn}
use Rattle.sift_base.specs.laws.Draws.{after-one}
use Rattle.sift_clocklab.specs.Draws.{shows_nothing, spread}
use Rattle.sift_clocklab.proofs.Numbers.{after-next}
use Rattle.sift_clocklab.proofs.lab.DrawnFace.show.Goals as goal

-- nothing is shown after one draw
pub returns-then-draw-eq0 : goal.returns-then-draw-eq0
unfolding after
returns-then-draw-eq0 c = search rules

-- a reading is shown after two
pub returns : goal.returns
returns c =
    let x = c.args.self.now in
    let one : c.draw.new.self ≡ after x.draw 1 = c.draw.ensures.next ∙ sym (after-one x.draw) in
    let two : c.spread.new.draw ≡ after x.draw 2 = after-next x.draw _ _ 1 2 one c.spread.ensures.next refl in
    let number : c.draw.result ≡ drawn (after x.draw 1) 4 = c.draw.ensures.drawn ∙ ap (λ y. drawn y 4) one in
    let some : shows_nothing x ≡ false = ne_eqb (drawn (after x.draw 1) 4) 0 (λ none. c.if-draw-eq0.false (number ∙ none)) in
    let held : to_z w32 (of_z w32 c.spread.result) ≡ c.spread.result = omega (arith, ints) in
    rw some (ap Some (held ∙ (c.spread.ensures.drawn ∙ (λ i. spread (c.from.ensures i + 1) (two i)))), λ i. record x { draw = two i })
