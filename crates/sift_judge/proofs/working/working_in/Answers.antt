use Rattle.std.specs.List.{filter}
use Rattle.std.proofs.lemmas.List.{take_all}
use Rattle.std.proofs.Common.{◌≡◌, ℕ, Bool, ◌++◌, ◌∷◌, [], ◌∙◌, length, sym, ap, arith, ◌≤◌}
use Rattle.sift_exec.specs.laws.Counted.{filter-yes, filter-no, filter-room}
use Rattle.sift_mission.specs.Parts.{data_of}
use Rattle.sift_report.specs.Told.{works_in}
use Rattle.sift_judge.proofs.working.working_in.Goals.{then-works, else-works}
use Rattle.sift_judge.proofs.working.working_in.Goals as goal

pub push-requires : goal.push-requires
push-requires c =
    let works : ℕ → Bool = λ u. works_in (data_of c.args.mission.now) u c.args.f in
    let room = filter-room works c.args.config.now c.loop-i.i c.unit_at-unit.result c.unit_at-unit.ensures c.len-i-end.ensures.config in
    (omega arith, omega (arith, room, ap length c.loop-i.invariant))

pub loop-i-preserved : goal.loop-i-preserved
loop-i-preserved c =
    let works : ℕ → Bool = λ u. works_in (data_of c.args.mission.now) u c.args.f in
    let us = c.args.config.now in
    elim c.if-works.branch [
      | then-works w ↦
          let yes = sym c.works.ensures ∙ w.if-works.true in
          let items : c.if-works.working.items ≡ c.loop-i.working.items ++ c.unit_at-unit.result ∷ [] = rw w.working-is w.push.ensures.items in
          items ∙ ap (λ units. units ++ c.unit_at-unit.result ∷ []) c.loop-i.invariant
          ∙ sym (filter-yes works us c.loop-i.i c.unit_at-unit.result c.unit_at-unit.ensures yes)
      | else-works w ↦
          let no = sym c.works.ensures ∙ w.if-works.false in
          rw w.working-is (c.loop-i.invariant ∙ sym (filter-no works us c.loop-i.i c.unit_at-unit.result c.unit_at-unit.ensures no))
    ]

pub returns : goal.returns
returns c =
    let us = c.args.config.now in
    let seen : length us ≤ c.loop-i.i = omega (arith, c.loop-i-test.false, c.len-i-end.ensures.length) in
    c.loop-i.invariant ∙ ap (filter (λ u. works_in (data_of c.args.mission.now) u c.args.f)) (take_all c.loop-i.i us seen)
