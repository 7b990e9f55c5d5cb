use Rattle.std.proofs.Common.{◌-◌, arith, rules}
use Rattle.std.proofs.lemmas.List.{get_or-replicate}
use Rattle.sift_mission.proofs.Links.{none_next, linked_more}
use Rattle.sift_mission.proofs.timetable.Agenda.of.Goals as goal

-- at the end there is none
pub loop-i-init : goal.loop-i-init
loop-i-init c = record {
  as_many = search rules;
  all_times = search rules;
  links = λ k low high. absurd (omega arith);
  firsts = λ time fits. none_next c.args.count c.args.times time _ (get_or-replicate 256 time _ 0 fits);
}

-- one number more
pub loop-i-preserved : goal.loop-i-preserved
loop-i-preserved c =
    let some = c.loop-i-test.true in let most = c.loop-i.auto.i in
    linked_more c.args.count c.args.times (c.loop-i.i - 1) (omega arith) c.loop-i.next c.loop-i.first c.loop-i.i c.from-time.result (omega arith) c.from-time.ensures
    (let fits = c.loop-i-test.element_fits in omega (arith, c.from-time.ensures)) c.requires c.loop-i.invariant
