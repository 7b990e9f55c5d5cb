use Rattle.std.proofs.Common.{◌∙◌}
use Rattle.sift_mission.specs.Parts.{data_of}
use Rattle.sift_core.specs.Courses.{course_of}
use Rattle.sift_core.proofs.Turning.{turns_more, turns_end}
use Rattle.sift_core.proofs.machine.Machine.fly_on.Goals as goal

pub loop-drawer-preserved : goal.loop-drawer-preserved
loop-drawer-preserved g c = record {
  under_way = c.turn_before.ensures.under_way;
  layout = c.turn_before.ensures.layout ∙ c.loop-drawer.invariant.layout;
  after = turns_more g.R.Rogue.allows (data_of c.args.mission.now) c.args.order (course_of (data_of c.args.mission.now) c.args.self.now c.args.rogues.now)
      c.loop-drawer.drawer (course_of (data_of c.args.mission.now) c.loop-drawer.self c.loop-drawer.rogues) c.turn_before.new.drawer
      (course_of (data_of c.args.mission.now) c.turn_before.new.self c.turn_before.new.rogues)
      c.loop-drawer.invariant.after c.turn_before.result c.loop-drawer-test.ensures c.turn_before.ensures.turn;
  storms = λ xs k. c.turn_before.ensures.storms xs (c.loop-drawer.invariant.storms xs k);
}

pub returns-clause-order : goal.returns-clause-order
returns-clause-order g c =
    turns_end g.R.Rogue.allows (data_of c.args.mission.now) c.args.order (course_of (data_of c.args.mission.now) c.args.self.now c.args.rogues.now)
    c.loop-drawer.drawer (course_of (data_of c.args.mission.now) c.loop-drawer.self c.loop-drawer.rogues) c.turn_before.new.drawer
    (course_of (data_of c.args.mission.now) c.turn_before.new.self c.turn_before.new.rogues)
    c.loop-drawer.invariant.after c.turn_before.result c.loop-drawer-test.ensures c.turn_before.ensures.turn

pub returns-clause-storms : goal.returns-clause-storms
returns-clause-storms g c = λ xs k. c.turn_before.ensures.storms xs (c.loop-drawer.invariant.storms xs k)
