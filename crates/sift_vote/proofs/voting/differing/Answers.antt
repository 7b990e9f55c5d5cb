use Rattle.std.proofs.Common.{ap, ◌∙◌, sym, nat_cmp}
use Rattle.std.specs.FinSet as set
use Rattle.sift_base.specs.Units.{holds}
use Rattle.sift_vote.proofs.Differences.{differing_joins, same_stays_out}
use Rattle.sift_vote.proofs.voting.differing.Goals as goal
use Rattle.sift_vote.proofs.voting.differing.Goals.{then-differs, else-differs}

pub loop-position-init : goal.loop-position-init
loop-position-init c = λ u. ap (λ units. holds units u) c.empty-caught.ensures ∙ set.contains-empty nat_cmp u

pub loop-position-preserved : goal.loop-position-preserved
loop-position-preserved c = λ u.
    let l = c.loop-position in
    let t = c.index-units-position in
    let place = c.index-places-position in
    elim c.if-differs.branch [
      | then-differs w ↦ ap (λ units. holds units u) (w.caught-is ∙ w.with-caught.ensures)
          ∙ differing_joins c.args.units.now c.args.places.now c.args.vote l.caught l.position t.result place.result
          c.loop-position-test.true c.requires t.is place.is l.invariant (sym c.differs.ensures ∙ w.if-differs.true) u
      | else-differs w ↦ ap (λ units. holds units u) w.caught-is
          ∙ same_stays_out c.args.units.now c.args.places.now c.args.vote l.caught l.position t.result place.result
          c.loop-position-test.true c.requires t.is place.is l.invariant (sym c.differs.ensures ∙ w.if-differs.false) u
    ]
