use Rattle.std.proofs.Common.{◌≡◌, ◌∙◌, ℕ, Bool, Option, Some, ap, sym, unwrap_or}
use Rattle.std.specs.Prelude.{slice_get}
use Rattle.sift_config.specs.Config.{first_units}
use Rattle.sift_config.specs.laws.FirstUnits.{first_is_zero}
use Rattle.sift_mission.specs.Parts.{data_of}
use Rattle.sift_report.specs.Told.{works_in}
use Rattle.sift_judge.proofs.Lists.{first_found}
use Rattle.sift_judge.proofs.working.lead_in.Goals as goal

pub returns-in-Some : goal.returns-in-Some
returns-in-Some c =
    let works : ℕ → Bool = λ u. works_in (data_of c.args.mission.now) u c.args.f in
    let found = first_found works (first_units c.args.mission.now.units) c.deref.result.now (c.deref.ensures.0 ∙ c.working_at.ensures) in
    ap (λ (o : Option ℕ). unwrap_or o 0) (c.in-Some.ensures.value ∙ found)

-- where none works, it is the first
pub returns-in-None : goal.returns-in-None
returns-in-None c =
    let works : ℕ → Bool = λ u. works_in (data_of c.args.mission.now) u c.args.f in
    let n = c.args.mission.now.units in
    let found = first_found works (first_units n) c.deref.result.now (c.deref.ensures.0 ∙ c.working_at.ensures) in
    let first : slice_get (first_units n) 0 ≡ Some c.unit_at.result = ap (λ us. slice_get us 0) (sym c.everyone.ensures) ∙ c.unit_at.ensures in
    first_is_zero n c.unit_at.result first ∙ ap (λ (o : Option ℕ). unwrap_or o 0) (c.in-None.ensures.value ∙ found)
