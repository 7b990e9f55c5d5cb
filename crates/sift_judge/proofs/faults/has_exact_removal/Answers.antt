use Rattle.sift_judge.proofs.Deciding.{none_told}
use Rattle.std.proofs.Common.{◌≡◌, ◌∙◌, List, ℕ, Some, suc, add-one, not, subst, sym, arith, None, refl}
use Rattle.std.specs.List.{filter}
use Rattle.sift_mission.specs.Parts.{data_of}
use Rattle.sift_report.specs.Told.{config_told}
use Rattle.sift_judge.proofs.Lists.{one_told}
use Rattle.sift_judge.proofs.faults.has_exact_removal.Goals as goal
use Rattle.sift_judge.proofs.Caught.{two_tell}

pub overflow_add-f : goal.overflow_add-f
overflow_add-f c = omega (arith, c.requires.frame, c.a_mission_fits.ensures.parts.limits.few_frames)

pub returns : goal.returns
returns c =
    let d = data_of c.args.mission.now in
    let lines = c.args.lines.now in
    let f = c.args.f in
    let us = c.in-Some.config in
    let vs = c.in-Some-config_told.next in
    let is : config_told d lines f ≡ Some us = sym c.config_told.ensures ∙ c.in-Some.is in
    let is_next : config_told d lines (suc f) ≡ Some vs =
    subst (λ g. config_told d lines g ≡ Some vs) (add-one f) (sym c.config_told-2.ensures ∙ c.in-Some-config_told.is) in (
      (λ t units next told told_next. subst (λ (ws : List ℕ). next ≡ filter (λ v. not (two_tell d lines f ws v)) ws) (one_told us units _ is told)
          (sym (one_told vs next _ is_next told_next) ∙ c.is_exact.ensures.0 t)),
      (λ given. c.is_exact.ensures.1 (given us vs is is_next)),
    )

pub returns-in_default-config_told : goal.returns-in_default-config_told
returns-in_default-config_told c =
    let d = data_of c.args.mission.now in
    let none : config_told d c.args.lines.now (suc c.args.f) ≡ None =
    subst (λ g. config_told d c.args.lines.now g ≡ None) (add-one c.args.f) (sym c.config_told-2.ensures ∙ c.in_default-config_told.is) in
    ((λ t us next told told_next. absurd (none_told _ next none told_next)), (λ given. refl))

pub returns-in_default : goal.returns-in_default
returns-in_default c =
    let none : config_told (data_of c.args.mission.now) c.args.lines.now c.args.f ≡ None = sym c.config_told.ensures ∙ c.in_default.is in
    ((λ t us next told told_next. absurd (none_told _ us none told)), (λ given. refl))
