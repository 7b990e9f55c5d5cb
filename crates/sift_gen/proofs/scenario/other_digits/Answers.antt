use Rattle.std.proofs.Common.{◌++◌, ap, sym, ◌∙◌, string_bytes}
use Rattle.std.specs.Fmt.{decimal}
use Rattle.sift_gen.proofs.Listing.{digits-added, digits-kept}
use Rattle.sift_gen.proofs.scenario.other_digits.Goals as goal
use Rattle.sift_gen.proofs.scenario.other_digits.Goals.{then-other-unit+in_ok-write, else-other-unit}

-- one unit more, or the one that is left out
pub loop-other-preserved : goal.loop-other-preserved
loop-other-preserved c =
    let n = c.loop-other.other-counter in
    elim c.if-other-unit.branch [
      | then-other-unit+in_ok-write w ↦
          ap string_bytes w.digits-is ∙ (w.in_ok-write.ensures.bytes ∙ (ap (λ xs. xs ++ decimal n) c.loop-other.invariant
          ∙ sym (digits-added n c.args.unit w.if-other-unit.true)))
      | else-other-unit w ↦
          ap string_bytes w.digits-is ∙ (c.loop-other.invariant ∙ sym (digits-kept n c.args.unit w.if-other-unit.false))
    ]
