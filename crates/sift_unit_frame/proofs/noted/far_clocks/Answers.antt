use Rattle.std.proofs.Common.{ℕ, ◌&&◌, not, nat_eq, take, nat_cmp, ap, ◌∙◌, sym}
use Rattle.std.specs.Prelude.{◌+ℤ◌}
use Rattle.std.specs.FinSet as set
use Rattle.sift_base.specs.Units.{holds, has}
use Rattle.sift_base.specs.laws.Counts.{has_place}
use Rattle.sift_clock.specs.Correction.{is_too_far}
use Rattle.sift_config.specs.laws.Lists.{has_front, get-drop}
use Rattle.sift_config.specs.laws.Joining.{failing_stays, passing_joins}
use Rattle.sift_mission.specs.Parts.{flown_of}
use Rattle.sift_unit_frame.specs.Memory.{reading_at}
use Rattle.sift_unit_frame.proofs.noted.far_clocks.Goals as goal
use Rattle.sift_unit_frame.proofs.noted.far_clocks.Goals.{then-is_far, else-is_far}

pub loop-position-init : goal.loop-position-init
loop-position-init c = λ v. ap (λ units. holds units v) c.empty-far.ensures ∙ set.contains-empty nat_cmp v

-- the other unit is one of the mission
pub is_far-requires-clause-other : goal.is_far-requires-clause-other
is_far-requires-clause-other c =
    c.requires.config.inside c.unit_at-other.result (has_place c.args.config.now c.loop-position.position c.unit_at-other.result c.unit_at-other.ensures)

-- one unit more
pub loop-position-preserved : goal.loop-position-preserved
loop-position-preserved c = λ v.
    let m = flown_of c.args.mission.now in
    let us = c.args.config.now in
    let i = c.loop-position.position in
    let t = c.unit_at-other.result in
    let seen = λ (u : ℕ). has (take i us) u in
    let caught = λ (u : ℕ). not (nat_eq u c.args.unit) && is_too_far (m.skew +ℤ m.error) (reading_at m c.args.unit c.args.clk.now c.args.places.now u) in
    let front = ap (λ b. b && caught v) (has_front us v i t (get-drop us i ∙ c.unit_at-other.ensures)) in
    elim c.if-is_far.branch [
      | then-is_far w ↦ ap (λ units. holds units v) (w.far-is ∙ w.with-far.ensures)
          ∙ passing_joins c.loop-position.far seen caught t c.loop-position.invariant (sym c.is_far.ensures ∙ w.if-is_far.true) v ∙ sym front
      | else-is_far w ↦ ap (λ units. holds units v) w.far-is
          ∙ failing_stays c.loop-position.far seen caught t c.loop-position.invariant (sym c.is_far.ensures ∙ w.if-is_far.false) v ∙ sym front
    ]
