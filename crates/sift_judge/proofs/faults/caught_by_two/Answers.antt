use Rattle.std.proofs.lemmas.List.{take_all}
use Rattle.std.proofs.Common.{◌≡◌, ◌∙◌, ◌&&◌, ℕ, Bool, List, length, true, false, ap, arith, ◌≤◌}
use Rattle.std.specs.Prelude.{count_by}
use Rattle.std.specs.List.{filter}
use Rattle.std.specs.FinSet as set
use Rattle.std.specs.Ordering.{nat_cmp}
use Rattle.std.proofs.lemmas.Bool.Decides.{nat_tests}
use Rattle.sift_base.specs.Units.{holds, has}
use Rattle.sift_mission.specs.Parts.{data_of}
use Rattle.sift_report.specs.Told.{works_in, told_at}
use Rattle.sift_judge.proofs.Caught.{count_both, with_one, without_one, two_tell}
use Rattle.sift_judge.proofs.faults.caught_by_two.Goals.{then-count_accusers-gt1, else-count_accusers-gt1}
use Rattle.sift_judge.proofs.faults.caught_by_two.Goals as goal

pub loop-i-init : goal.loop-i-init
loop-i-init c = λ v. ap (λ units. holds units v) c.empty-caught.ensures ∙ set.contains-empty nat_cmp v

pub loop-i-preserved : goal.loop-i-preserved
loop-i-preserved c =
    let d = data_of c.args.mission.now in
    let lines = c.args.lines.now in
    let f = c.args.f in
    let us = c.args.config.now in
    let unit = c.unit_at-unit.result in
    let works : ℕ → Bool = λ u. works_in d u f in
    let names : ℕ → Bool = λ u. holds (told_at d lines f u).caught unit in
    let count : c.count_accusers.result ≡ count_by (λ u. works u && names u) us =
    c.count_accusers.ensures ∙ ap (λ (units : List ℕ). length (filter names units)) (c.deref.ensures.0 ∙ c.working_in-working.ensures) ∙ count_both works names us in
    elim c.if-count_accusers-gt1.branch [
      | then-count_accusers-gt1 w ↦
          let many = w.if-count_accusers-gt1.true in
          let two : two_tell d lines f us unit ≡ true = grind (arith, nat_tests, count, many) in
          λ v. ap (λ units. holds units v) (w.caught-is ∙ w.with-caught.ensures)
          ∙ with_one (two_tell d lines f us) us c.loop-i.i unit c.unit_at-unit.ensures c.loop-i.caught c.loop-i.invariant two v
      | else-count_accusers-gt1 w ↦
          let few = w.if-count_accusers-gt1.false in
          let two : two_tell d lines f us unit ≡ false = grind (arith, nat_tests, count, few) in
          λ v. ap (λ units. holds units v) w.caught-is
          ∙ without_one (two_tell d lines f us) us c.loop-i.i unit c.unit_at-unit.ensures c.loop-i.caught c.loop-i.invariant two v
    ]

pub returns : goal.returns
returns c =
    let us = c.args.config.now in
    let seen : length us ≤ c.loop-i.i = omega (arith, c.loop-i-test.false, c.len-i-end.ensures.length) in
    λ v. c.loop-i.invariant v
    ∙ ap (λ (units : List ℕ). has units v && two_tell (data_of c.args.mission.now) c.args.lines.now c.args.f us v) (take_all c.loop-i.i us seen)
