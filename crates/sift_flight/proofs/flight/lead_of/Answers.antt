use Rattle.std.proofs.Common.{ℕ, Bool, ◌≡◌, ◌≤◌, ◌∙◌, sym, subst, add-one, arith, length, slice_get, Some}
use Rattle.sift_config.specs.laws.FirstUnits.{first_is_zero}
use Rattle.sift_mission.specs.Parts.{flown_of}
use Rattle.sift_flight.specs.Figures.{Works}
use Rattle.sift_flight.specs.laws.Leading.{lead_works}
use Rattle.sift_flight.proofs.flight.lead_of.Goals as goal
use Rattle.sift_flight.proofs.Firsts.{found_here, found_later, found_nowhere}

pub returns-then-works-clause-lead : goal.returns-then-works-clause-lead
returns-then-works-clause-lead c =
    let works : ℕ → Bool = λ u. (flown_of c.args.mission.now).works u c.args.f in
    let here = found_here works c.everyone-everyone.result c.loop-i.i c.unit_at-unit.result c.unit_at-unit.ensures (sym c.works.ensures ∙ c.if-works.true) in
    sym (c.loop-i.invariant ∙ here)

pub returns-then-works-clause-works : goal.returns-then-works-clause-works
returns-then-works-clause-works c =
    subst (λ u. Works (flown_of c.args.mission.now) u c.args.f) (sym (returns-then-works-clause-lead c))
    (lead_works (flown_of c.args.mission.now) c.a_mission_flies.ensures.flyable c.args.f)

pub loop-i-preserved : goal.loop-i-preserved
loop-i-preserved c =
    let works : ℕ → Bool = λ u. (flown_of c.args.mission.now).works u c.args.f in
    let later = found_later works c.everyone-everyone.result c.loop-i.i c.unit_at-unit.result c.unit_at-unit.ensures (sym c.works.ensures ∙ c.if-works.false) in
    rw (add-one c.loop-i.i) (c.loop-i.invariant ∙ later)

-- past the last unit none has passed, so the lead unit has the number 0
pub returns-clause-lead : goal.returns-clause-lead
returns-clause-lead c =
    let seen : length c.everyone-everyone.result ≤ c.loop-i.i = omega (arith, c.loop-i-test.false, c.len-i-end.ensures.length) in
    let zero_lead = c.loop-i.invariant ∙ found_nowhere (λ u. (flown_of c.args.mission.now).works u c.args.f) c.everyone-everyone.result c.loop-i.i seen in
    let first : slice_get (flown_of c.args.mission.now).units 0 ≡ Some c.unit_at.result = rw (sym c.everyone-everyone.ensures) c.unit_at.ensures in
    first_is_zero c.args.mission.now.units c.unit_at.result first ∙ sym zero_lead

pub returns-clause-works : goal.returns-clause-works
returns-clause-works c =
    subst (λ u. Works (flown_of c.args.mission.now) u c.args.f) (sym (returns-clause-lead c))
    (lead_works (flown_of c.args.mission.now) c.a_mission_flies.ensures.flyable c.args.f)
