use Rattle.std.proofs.Common.{◌≡◌, ◌+◌, refl, ap, sym, ◌∙◌, w32, to_z, of_z, rules}
use Rattle.std.proofs.lemmas.Int.{to_z-of_z}
use Rattle.sift_base.specs.Draw.{after}
use Rattle.sift_clocklab.specs.Draws.{noise_drawn, others_before, spread}
use Rattle.sift_clocklab.proofs.Lists.{values_more}
use Rattle.sift_clocklab.proofs.Numbers.{after-next, before-other, before-same, noise-other, noise-same}
use Rattle.sift_clocklab.proofs.drawn_lab.drawn_row.Goals as goal
use Rattle.sift_clocklab.proofs.drawn_lab.drawn_row.Goals.{then-other-own, else-other-own}

-- no clocks yet, and no draws
pub loop-other-init : goal.loop-other-init
unfolding after
loop-other-init c = search rules

-- one clock more, and a draw unless it is the own one
pub loop-other-preserved : goal.loop-other-preserved
loop-other-preserved c =
    let x = c.args.draw.now in
    let own = c.args.own in
    let other = c.loop-other.other in
    let inv = c.loop-other.invariant in record {
      row = values_more (noise_drawn c.args.error x own) other c.loop-other.row.items c.push.new.self.items _ inv.row
          c.in_ok-push.ensures.items
          (elim c.if-other-own.branch [
            | then-other-own w ↦ w.noise-is ∙ sym (noise-same c.args.error x own other w.if-other-own.true)
            | else-other-own w ↦
                let held : to_z w32 (of_z w32 w.spread-noise.result) ≡ w.spread-noise.result =
                to_z-of_z w32 w.spread-noise.result (record { sfits = w.spread-noise.type_inv }) in
                let next = after-next x c.loop-other.draw w.spread-noise.new.draw (others_before own other) (others_before own other + 1)
                inv.next w.spread-noise.ensures.next refl in
                w.noise-is ∙ (held ∙ (w.spread-noise.ensures.drawn ∙ (ap (spread c.args.error) next
                ∙ sym (noise-other c.args.error x own other w.if-other-own.false))))
          ]);
      next = elim c.if-other-own.branch [
        | then-other-own w ↦ w.draw-is ∙ (inv.next ∙ ap (after x) (sym (before-same own other w.if-other-own.true)))
        | else-other-own w ↦
            w.draw-is ∙ after-next x c.loop-other.draw w.spread-noise.new.draw (others_before own other) (others_before own (other + 1))
            inv.next w.spread-noise.ensures.next (before-other own other w.if-other-own.false)
      ];
    }
