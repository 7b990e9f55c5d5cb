use Rattle.std.proofs.Common.{◌<◌, length}
use Rattle.sift_config.specs.laws.FirstUnits.{unit_low}
use Rattle.sift_mission.specs.Parts.{data_of, flown_of}
use Rattle.sift_core.specs.Courses.{course_of}
use Rattle.sift_core.proofs.Calls.{flies_on, spends_called, stored_on, still_turned, still_low, still_there}
use Rattle.sift_core.proofs.MachineSteps.{unit_below, seat_low}
use Rattle.sift_core.proofs.Storming.{has_calls_at, spender_turned, spent_layout, spent_way, spent_storms}
use Rattle.sift_core.proofs.machine.Machine.spend_one.Goals as goal

pub call_next-shot-requires-clause-rogues : goal.call_next-shot-requires-clause-rogues
call_next-shot-requires-clause-rogues g c = c.requires.under_way.rogues

pub call_next-shot-requires-clause-unit : goal.call_next-shot-requires-clause-unit
call_next-shot-requires-clause-unit g c = let m = flown_of c.args.mission.now in let x = c.args.self.now in
    seat_low m x c.args.u c.requires.under_way.flies (unit_below m x c.args.u c.requires.under_way.flies c.requires.unit)

-- the unit's storm has begun, and calls are left of it
pub call_next-shot-requires-clause-calls : goal.call_next-shot-requires-clause-calls
call_next-shot-requires-clause-calls g c =
    let d = data_of c.args.mission.now in let m = flown_of c.args.mission.now in let x = c.args.self.now in
    λ e. let low : c.args.u < length x.seats.items = seat_low m x c.args.u c.requires.under_way.flies (unit_below m x c.args.u
    c.requires.under_way.flies c.requires.unit) in has_calls_at d x c.args.u e c.requires.under_way.flies c.requires.unit low
    (c.requires.under_way.left.each c.args.u (unit_low d.units c.args.u c.requires.unit)) c.requires.some c.requires.down

pub store_shot-requires-clause-unit : goal.store_shot-requires-clause-unit
store_shot-requires-clause-unit g c =
    let m = flown_of c.args.mission.now in let x = c.args.self.now in let y = c.call_next-shot.new.self in
    still_low x y c.args.u c.call_next-shot.ensures.rest (unit_below m x c.args.u c.requires.under_way.flies c.requires.unit)

pub store_shot-requires-clause-turned : goal.store_shot-requires-clause-turned
store_shot-requires-clause-turned g c =
    let d = data_of c.args.mission.now in let x = c.args.self.now in let y = c.call_next-shot.new.self in
    still_turned x y c.args.u c.call_next-shot.ensures.rest (spender_turned d x c.args.u _ (c.requires.under_way.left.each c.args.u (unit_low d.units
    c.args.u c.requires.unit)) c.requires.some c.requires.down)

pub store_shot-requires-clause-there : goal.store_shot-requires-clause-there
store_shot-requires-clause-there g c = let x = c.args.self.now in let y = c.call_next-shot.new.self in
    still_there x y c.args.u c.call_next-shot.result c.call_next-shot.ensures.rest c.call_next-shot.ensures.there

pub returns-clause-under_way : goal.returns-clause-under_way
returns-clause-under_way g c =
    let d = data_of c.args.mission.now in let m = flown_of c.args.mission.now in let x = c.args.self.now in
    let y = c.call_next-shot.new.self in let z = c.store_shot.new.self in let rs = c.args.rogues.now in let allows = g.R.Rogue.allows in
    spent_way allows d c.args.u (course_of d x rs) (course_of d z c.call_next-shot.new.rogues) c.requires.unit c.requires.under_way c.requires.down
    c.requires.some (record {
      shot = c.call_next-shot.result;
      called = spends_called _ d c.args.u x y z rs c.call_next-shot.new.rogues
          c.store_shot.ensures.seats (c.call_next-shot.ensures.called d);
      stored = stored_on x y c.call_next-shot.ensures.rest c.args.u _ z
          c.store_shot.ensures.stored;
    }) (λ w flies. c.store_shot.ensures.flies m w (flies_on x y c.call_next-shot.ensures.rest m w flies))

pub returns-clause-layout : goal.returns-clause-layout
returns-clause-layout g c =
    let d = data_of c.args.mission.now in let m = flown_of c.args.mission.now in let x = c.args.self.now in
    let y = c.call_next-shot.new.self in let z = c.store_shot.new.self in let rs = c.args.rogues.now in let allows = g.R.Rogue.allows in
    spent_layout allows d c.args.u (course_of d x rs) (course_of d z c.call_next-shot.new.rogues) c.requires.unit c.requires.under_way
    c.requires.down c.requires.some (record {
      shot = c.call_next-shot.result;
      called = spends_called _ d c.args.u x y z rs
          c.call_next-shot.new.rogues c.store_shot.ensures.seats (c.call_next-shot.ensures.called d);
      stored = stored_on x y c.call_next-shot.ensures.rest
          c.args.u _ z c.store_shot.ensures.stored;
    }) (λ w flies. c.store_shot.ensures.flies m w (flies_on x y c.call_next-shot.ensures.rest m w flies))

pub returns-clause-spent : goal.returns-clause-spent
returns-clause-spent g c =
    let d = data_of c.args.mission.now in let x = c.args.self.now in let y = c.call_next-shot.new.self in let z = c.store_shot.new.self in
    let rs = c.args.rogues.now in
    record {
      shot = c.call_next-shot.result;
      called = spends_called _ d c.args.u x y z rs c.call_next-shot.new.rogues
          c.store_shot.ensures.seats (c.call_next-shot.ensures.called d);
      stored = stored_on x y c.call_next-shot.ensures.rest c.args.u _ z c.store_shot.ensures.stored;
    }

pub returns-clause-storms : goal.returns-clause-storms
returns-clause-storms g c =
    let d = data_of c.args.mission.now in let m = flown_of c.args.mission.now in let x = c.args.self.now in
    let y = c.call_next-shot.new.self in let z = c.store_shot.new.self in let rs = c.args.rogues.now in let allows = g.R.Rogue.allows in
    spent_storms allows d c.args.u (course_of d x rs) (course_of d z c.call_next-shot.new.rogues) c.requires.unit c.requires.under_way
    c.requires.down c.requires.some (record {
      shot = c.call_next-shot.result;
      called = spends_called _ d c.args.u x y z rs
          c.call_next-shot.new.rogues c.store_shot.ensures.seats (c.call_next-shot.ensures.called d);
      stored = stored_on x y c.call_next-shot.ensures.rest
          c.args.u _ z c.store_shot.ensures.stored;
    }) (λ w flies. c.store_shot.ensures.flies m w (flies_on x y c.call_next-shot.ensures.rest m w flies))
