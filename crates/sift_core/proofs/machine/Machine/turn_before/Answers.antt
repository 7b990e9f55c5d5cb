use Rattle.std.proofs.Common.{◌∙◌, arith}
use Rattle.std.proofs.lemmas.Grind.{common_steps}
use Rattle.sift_mission.specs.Parts.{data_of}
use Rattle.sift_core.specs.Courses.{course_of}
use Rattle.sift_core.proofs.Turning.{drawn_there, own_turn, own_nearer, given_done, least_goes_on, least_turn, least_nearer, first_turn, first_nearer}
use Rattle.sift_core.proofs.machine.Machine.turn_before.Goals as goal

pub goes_itself-requires-clause-unit : goal.goes_itself-requires-clause-unit
goes_itself-requires-clause-unit g c = drawn_there g.R.Rogue.allows (data_of c.args.mission.now) (course_of (data_of c.args.mission.now) c.args.self.now c.args.rogues.now)
    c.args.drawer.now c.drawn_unit-drawn.new.drawer c.drawn_unit-drawn.result c.drawn_unit-drawn.ensures c.requires.under_way
    (course_of (data_of c.args.mission.now) c.args.self.now c.args.rogues.now) c.requires.under_way

-- the drawn unit went itself
pub returns-then-goes_itself-clause-turn : goal.returns-then-goes_itself-clause-turn
returns-then-goes_itself-clause-turn g c = own_turn g.R.Rogue.allows (data_of c.args.mission.now) (course_of (data_of c.args.mission.now) c.args.self.now c.args.rogues.now)
    c.args.drawer.now c.drawn_unit-drawn.new.drawer c.drawn_unit-drawn.result c.drawn_unit-drawn.ensures c.requires.under_way
    (course_of (data_of c.args.mission.now) c.goes_itself.new.self c.goes_itself.new.rogues) c.goes_itself.ensures.under_way c.if-goes_itself.ensures.tried

pub returns-then-goes_itself-clause-nearer : goal.returns-then-goes_itself-clause-nearer
returns-then-goes_itself-clause-nearer g c = own_nearer g.R.Rogue.allows (data_of c.args.mission.now) c.drawn_unit-drawn.result
    (course_of (data_of c.args.mission.now) c.args.self.now c.args.rogues.now) (course_of (data_of c.args.mission.now) c.goes_itself.new.self c.goes_itself.new.rogues)
    c.requires.under_way c.goes_itself.ensures.under_way (drawn_there g.R.Rogue.allows (data_of c.args.mission.now) (course_of (data_of c.args.mission.now) c.args.self.now c.args.rogues.now)
    c.args.drawer.now c.drawn_unit-drawn.new.drawer c.drawn_unit-drawn.result c.drawn_unit-drawn.ensures c.requires.under_way
    (course_of (data_of c.args.mission.now) c.goes_itself.new.self c.goes_itself.new.rogues) c.goes_itself.ensures.under_way)
    c.if-goes_itself.ensures.tried

-- or the least, where one is left
pub returns-in-Some-clause-layout : goal.returns-in-Some-clause-layout
returns-in-Some-clause-layout g c = c.step_on.ensures.layout ∙ c.goes_itself.ensures.layout

pub returns-in-Some-clause-turn : goal.returns-in-Some-clause-turn
returns-in-Some-clause-turn g c = least_turn g.R.Rogue.allows (data_of c.args.mission.now) (course_of (data_of c.args.mission.now) c.args.self.now c.args.rogues.now)
    c.args.drawer.now c.drawn_unit-drawn.new.drawer c.drawn_unit-drawn.result c.drawn_unit-drawn.ensures c.requires.under_way
    (course_of (data_of c.args.mission.now) c.goes_itself.new.self c.goes_itself.new.rogues) c.goes_itself.ensures.under_way c.if-goes_itself.ensures.tried c.in-Some.least
    (course_of (data_of c.args.mission.now) c.step_on.new.self c.step_on.new.rogues) c.step_on.ensures.under_way c.in-Some.ensures.found
    (least_goes_on g.R.Rogue.allows (data_of c.args.mission.now) c.in-Some.least (course_of (data_of c.args.mission.now) c.goes_itself.new.self c.goes_itself.new.rogues)
    (course_of (data_of c.args.mission.now) c.step_on.new.self c.step_on.new.rogues) c.goes_itself.ensures.under_way c.step_on.ensures.under_way c.in-Some.ensures.found
    c.step_on.result c.step_on.ensures.went c.step_on.ensures.waited)

pub returns-in-Some-clause-storms : goal.returns-in-Some-clause-storms
returns-in-Some-clause-storms g c = λ xs k. c.step_on.ensures.storms xs (c.goes_itself.ensures.storms xs k)

pub returns-in-Some-clause-nearer : goal.returns-in-Some-clause-nearer
returns-in-Some-clause-nearer g c = least_nearer g.R.Rogue.allows (data_of c.args.mission.now) (course_of (data_of c.args.mission.now) c.args.self.now c.args.rogues.now)
    c.args.drawer.now c.drawn_unit-drawn.new.drawer c.drawn_unit-drawn.result c.drawn_unit-drawn.ensures c.requires.under_way
    (course_of (data_of c.args.mission.now) c.goes_itself.new.self c.goes_itself.new.rogues) c.goes_itself.ensures.under_way c.if-goes_itself.ensures.tried c.in-Some.least
    (course_of (data_of c.args.mission.now) c.step_on.new.self c.step_on.new.rogues) c.step_on.ensures.under_way c.in-Some.ensures.found
    (least_goes_on g.R.Rogue.allows (data_of c.args.mission.now) c.in-Some.least (course_of (data_of c.args.mission.now) c.goes_itself.new.self c.goes_itself.new.rogues)
    (course_of (data_of c.args.mission.now) c.step_on.new.self c.step_on.new.rogues) c.goes_itself.ensures.under_way c.step_on.ensures.under_way c.in-Some.ensures.found
    c.step_on.result c.step_on.ensures.went c.step_on.ensures.waited)

-- or the first of which calls are left
pub returns-in-Some-first_left-clause-layout : goal.returns-in-Some-first_left-clause-layout
returns-in-Some-first_left-clause-layout g c = c.spend_one.ensures.layout ∙ c.goes_itself.ensures.layout

pub returns-in-Some-first_left-clause-turn : goal.returns-in-Some-first_left-clause-turn
returns-in-Some-first_left-clause-turn g c = first_turn g.R.Rogue.allows (data_of c.args.mission.now) (course_of (data_of c.args.mission.now) c.args.self.now c.args.rogues.now)
    c.args.drawer.now c.drawn_unit-drawn.new.drawer c.drawn_unit-drawn.result c.drawn_unit-drawn.ensures c.requires.under_way
    (course_of (data_of c.args.mission.now) c.goes_itself.new.self c.goes_itself.new.rogues) c.goes_itself.ensures.under_way c.if-goes_itself.ensures.tried c.in-Some-first_left.first
    (course_of (data_of c.args.mission.now) c.spend_one.new.self c.spend_one.new.rogues) c.spend_one.ensures.under_way c.in_default.ensures.none c.in-Some-first_left.ensures.found
    c.spend_one.ensures.spent

pub returns-in-Some-first_left-clause-storms : goal.returns-in-Some-first_left-clause-storms
returns-in-Some-first_left-clause-storms g c = λ xs k. c.spend_one.ensures.storms xs (c.goes_itself.ensures.storms xs k)

pub returns-in-Some-first_left-clause-nearer : goal.returns-in-Some-first_left-clause-nearer
returns-in-Some-first_left-clause-nearer g c = first_nearer g.R.Rogue.allows (data_of c.args.mission.now) (course_of (data_of c.args.mission.now) c.args.self.now c.args.rogues.now)
    c.args.drawer.now c.drawn_unit-drawn.new.drawer c.drawn_unit-drawn.result c.drawn_unit-drawn.ensures c.requires.under_way
    (course_of (data_of c.args.mission.now) c.goes_itself.new.self c.goes_itself.new.rogues) c.goes_itself.ensures.under_way c.if-goes_itself.ensures.tried c.in-Some-first_left.first
    (course_of (data_of c.args.mission.now) c.spend_one.new.self c.spend_one.new.rogues) c.spend_one.ensures.under_way c.in-Some-first_left.ensures.found c.spend_one.ensures.spent

-- who gives its turn away leaves a unit that is not done
pub unreachable-requires : goal.unreachable-requires
unreachable-requires g c = c.are_all_done.ensures.open c.if-are_all_done.false (given_done g.R.Rogue.allows (data_of c.args.mission.now) c.drawn_unit-drawn.result
    (course_of (data_of c.args.mission.now) c.args.self.now c.args.rogues.now) (course_of (data_of c.args.mission.now) c.goes_itself.new.self c.goes_itself.new.rogues)
    c.requires.under_way c.goes_itself.ensures.under_way (drawn_there g.R.Rogue.allows (data_of c.args.mission.now) (course_of (data_of c.args.mission.now) c.args.self.now c.args.rogues.now)
    c.args.drawer.now c.drawn_unit-drawn.new.drawer c.drawn_unit-drawn.result c.drawn_unit-drawn.ensures c.requires.under_way
    (course_of (data_of c.args.mission.now) c.goes_itself.new.self c.goes_itself.new.rogues) c.goes_itself.ensures.under_way)
    c.if-goes_itself.ensures.tried c.in_default.ensures.none c.in_default-first_left.ensures.none)

pub returns-then-are_all_done-clause-turn : goal.returns-then-are_all_done-clause-turn
returns-then-are_all_done-clause-turn g c = grind (arith, common_steps)
