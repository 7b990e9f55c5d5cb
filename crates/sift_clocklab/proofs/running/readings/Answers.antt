use Rattle.std.proofs.Common.{◌∷◌, ◌++◌, [], map, refl, ap, sym, ◌∙◌, add-one, arith}
use Rattle.std.proofs.lemmas.List.{map-append}
use Rattle.std.specs.List.{range_with_len}
use Rattle.sift_base.specs.Units.{others}
use Rattle.sift_clocklab.specs.Laboratory.{laboratory_of}
use Rattle.sift_clocklab.specs.Rounds.{reading_of}
use Rattle.sift_clocklab.proofs.Ranges.{others-more_other, others-more_same}
use Rattle.sift_clocklab.proofs.running.readings.Goals as goal
use Rattle.sift_clocklab.proofs.running.readings.Goals.{then-other-own, else-other-own}

-- one clock more is read, unless it is the own one
pub loop-other-preserved : goal.loop-other-preserved
loop-other-preserved c =
    let own = c.args.own in
    let other = c.loop-other.other in
    let f = reading_of (laboratory_of c.args.lab.now) c.args.offsets.now c.args.shown.now own in
    elim c.if-other-own.branch [
      | then-other-own w ↦ record {
        read =
            (λ i. (w.readings-is i).items) ∙ (w.push.ensures.items ∙ ((λ i. c.loop-other.invariant.read i ++ w.reading.ensures i ∷ [])
            ∙ (sym (map-append f (others own (range_with_len 0 other)) (other ∷ []))
            ∙ ap (map f) (sym (others-more_other own other w.if-other-own.true) ∙ rw (add-one other) refl))));
        few = (let more = w.push.ensures.len in let few = c.loop-other.invariant.few in rw w.readings-is (omega arith));
      }
      | else-other-own w ↦ record {
        read =
            (λ i. (w.readings-is i).items) ∙ (c.loop-other.invariant.read
            ∙ ap (map f) (sym (others-more_same own other w.if-other-own.false) ∙ rw (add-one other) refl));
        few = (let few = c.loop-other.invariant.few in rw w.readings-is (omega arith));
      }
    ]
