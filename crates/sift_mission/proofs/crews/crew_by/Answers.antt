use Rattle.std.proofs.Common.{◌≡◌, ℕ, ◌&&◌, take, nat_cmp, ap, ◌∙◌, sym}
use Rattle.std.specs.FinSet as set
use Rattle.sift_base.specs.Units.{holds, has}
use Rattle.sift_table.specs.Schedule.{positions_of}
use Rattle.sift_config.specs.laws.Lists.{has_front, get-drop}
use Rattle.sift_config.specs.laws.Joining.{passing_joins, failing_stays}
use Rattle.sift_mission.specs.Flown.{position_in}
use Rattle.sift_mission.proofs.Positions.{position-found}
use Rattle.sift_mission.proofs.crews.crew_by.Goals as goal
use Rattle.sift_mission.proofs.crews.crew_by.Goals.{then-runs, else-runs}

pub loop-position-init : goal.loop-position-init
loop-position-init c = λ v. ap (λ units. holds units v) c.empty-crew.ensures ∙ set.contains-empty nat_cmp v

-- one position more
pub loop-position-preserved : goal.loop-position-preserved
loop-position-preserved c = λ v.
    let us = c.args.config.now in
    let i = c.loop-position.position in
    let t = c.unit_at-unit.result in
    let seen = λ (u : ℕ). has (take i us) u in
    let runs = λ (u : ℕ). has (positions_of c.args.table.now c.args.t) (position_in us u) in
    let place : position_in us t ≡ i = (position-found us i t c.len-position-end.ensures.config.ascending c.unit_at-unit.ensures).1 in
    let here : runs t ≡ c.runs.result = ap (λ p. has (positions_of c.args.table.now c.args.t) p) place ∙ sym c.runs.ensures in
    let front = ap (λ b. b && runs v) (has_front us v i t (get-drop us i ∙ c.unit_at-unit.ensures)) in
    elim c.if-runs.branch [
      | then-runs w ↦ ap (λ units. holds units v) (w.crew-is ∙ w.with-crew.ensures)
          ∙ passing_joins c.loop-position.crew seen runs t c.loop-position.invariant (here ∙ w.if-runs.true) v ∙ sym front
      | else-runs w ↦ ap (λ units. holds units v) w.crew-is
          ∙ failing_stays c.loop-position.crew seen runs t c.loop-position.invariant (here ∙ w.if-runs.false) v ∙ sym front
    ]
