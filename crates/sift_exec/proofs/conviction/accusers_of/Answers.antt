use Rattle.std.proofs.Common.{◌≡◌, ℕ, ◌&&◌, not, nat_eq, cond, add-one, arith, ap, ◌∙◌, sym}
use Rattle.sift_base.specs.Units.{has_bit}
use Rattle.sift_exec.specs.Conviction.{names_by}
use Rattle.sift_exec.proofs.Accusing.{report_at, accuses, accusers-front}
use Rattle.sift_exec.proofs.conviction.accusers_of.Goals as goal
use Rattle.sift_exec.proofs.conviction.accusers_of.Goals.{then-accuses, else-accuses}

pub loop-position-preserved : goal.loop-position-preserved
loop-position-preserved c =
    let us = c.args.config.now in
    let reports = c.args.masks.now in
    let i = c.loop-position.position in
    let t = c.unit_at.result in
    let report = report_at us reports i t c.index-masks-position.result c.len-position-end.ensures.config.ascending c.requires c.unit_at.ensures ∙ sym c.index-masks-position.is in
    let added : accuses (names_by us reports) t c.args.accused ≡ cond c.accuses.result 1 0 =
    ap {B = ℕ} (λ r. cond (not (nat_eq t c.args.accused) && has_bit r c.args.accused) 1 0) report ∙ ap {B = ℕ} (λ b. cond b 1 0) (sym c.accuses.ensures) in
    let front = accusers-front (names_by us reports) us i t c.args.accused c.unit_at.ensures in
    elim c.if-accuses.branch [
      | then-accuses w ↦ rw (add-one i, w.count-is) (
        omega (arith, front, added, ap {B = ℕ} (λ b. cond b 1 0) w.if-accuses.true, c.loop-position.invariant.0),
        omega (arith, c.loop-position.invariant.1),
      )
      | else-accuses w ↦ rw (add-one i, w.count-is) (
        omega (arith, front, added, ap {B = ℕ} (λ b. cond b 1 0) w.if-accuses.false, c.loop-position.invariant.0),
        omega (arith, c.loop-position.invariant.1),
      )
    ]
