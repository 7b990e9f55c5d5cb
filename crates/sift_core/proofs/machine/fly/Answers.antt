use Rattle.std.proofs.Common.{◌∙◌, ap, subst}
use Rattle.sift_base.specs.declared.slots.Layout.{Layout}
use Rattle.sift_buffer.specs.Core.{Core}
use Rattle.sift_mission.specs.Parts.{data_of, flown_of}
use Rattle.sift_flight.specs.Flight.{no_strays}
use Rattle.sift_flight.specs.Told.{IsLogged}
use Rattle.sift_core.specs.Courses.{course_of, lefts}
use Rattle.sift_core.proofs.Storming.{first_storms, round_by_rogues}
use Rattle.sift_core.proofs.machine.fly.Goals as goal

pub fly_on-requires : goal.fly_on-requires
fly_on-requires g c = record {
  flies = (no_strays, c.in_ok-machine.ensures.flies);
  rogues = c.requires;
  left = c.in_ok-machine.ensures.left;
}

pub land-requires-clause-flies : goal.land-requires-clause-flies
land-requires-clause-flies g c = c.fly_on.ensures.under_way.flies

pub land-requires-clause-down : goal.land-requires-clause-down
land-requires-clause-down g c = λ u there. (c.fly_on.ensures.order.done u there).0

pub returns-clause-round : goal.returns-clause-round
returns-clause-round g c = round_by_rogues g.R.Rogue.allows (data_of c.args.mission.now) c.args.rogues.now
    (course_of (data_of c.args.mission.now) c.fly_on.new.self c.fly_on.new.rogues) c.land.result
    (c.fly_on.ensures.storms c.args.rogues.now (first_storms (data_of c.args.mission.now) c.in_ok-machine.machine c.in_ok-machine.ensures.flies
    (λ u. ap (λ (z : Core). (z.of u).progress) c.in_ok-machine.ensures.new.rack.core) (lefts (data_of c.args.mission.now) c.in_ok-machine.machine) c.in_ok-machine.ensures.calls
    g.R.Rogue.allows c.args.rogues.now))
    c.fly_on.ensures.order.done (c.fly_on.ensures.layout ∙ c.in_ok-machine.ensures.layout) c.land.ensures.round

pub returns-clause-logged : goal.returns-clause-logged
returns-clause-logged g c = subst (λ (l : Layout). IsLogged (flown_of c.args.mission.now) l c.land.result)
    (c.fly_on.ensures.layout ∙ c.in_ok-machine.ensures.layout) c.land.ensures.logged

pub returns-clause-ordered : goal.returns-clause-ordered
returns-clause-ordered g c = record {
  first = c.in_ok-machine.machine;
  new = c.in_ok-machine.ensures.new;
  calls = lefts (data_of c.args.mission.now) c.in_ok-machine.machine;
  all_left = c.in_ok-machine.ensures.calls;
  last = c.fly_on.new.self;
  calls_left = lefts (data_of c.args.mission.now) c.fly_on.new.self;
  turns = c.fly_on.ensures.order;
  landed = c.land.ensures.landed;
}
