use Rattle.std.proofs.Common.{ℕ, List, refl, slice_index, ap, ◌∙◌, subst}
use Rattle.sift_mission.specs.Parts.{data_of, flown_of}
use Rattle.sift_config.specs.laws.FirstUnits.{unit_low}
use Rattle.sift_unit.specs.declared.board.Stepped.TheVariants.{Moved, NotYet, Turned, Landed}
use Rattle.sift_core.specs.Courses.{BeginsStorm, course_of, lefts}
use Rattle.sift_core.specs.Machines.{IsFlying}
use Rattle.sift_core.proofs.Calls.{flies_on, stepped_on}
use Rattle.sift_core.proofs.MachineSteps.{unit_below, seat_low}
use Rattle.sift_core.proofs.Storming.{at_seats, moved, waited, landed, turned, has_storm}
use Rattle.sift_core.proofs.machine.Machine.step_on.Goals as goal

-- the unit moved
pub returns-in-Moved-clause-under_way : goal.returns-in-Moved-clause-under_way
returns-in-Moved-clause-under_way g c =
    let d = data_of c.args.mission.now in let x = c.args.self.now in let y = c.step.new.self in let rs = c.args.rogues.now in
    let allows = g.R.Rogue.allows in
    (at_seats allows d (course_of d x rs) y (lefts d x) rs (c.step.ensures.calls d) (moved allows d c.args.u x y (lefts d x) rs c.requires.unit
    c.requires.under_way c.requires.aloft c.step.ensures.flies c.in-Moved.ensures.stepped)).way

pub returns-in-Moved-clause-storms : goal.returns-in-Moved-clause-storms
returns-in-Moved-clause-storms g c =
    let d = data_of c.args.mission.now in let x = c.args.self.now in let y = c.step.new.self in let rs = c.args.rogues.now in
    let allows = g.R.Rogue.allows in
    (at_seats allows d (course_of d x rs) y (lefts d x) rs (c.step.ensures.calls d) (moved allows d c.args.u x y (lefts d x) rs c.requires.unit
    c.requires.under_way c.requires.aloft c.step.ensures.flies c.in-Moved.ensures.stepped)).storms

pub returns-in-Moved-clause-went : goal.returns-in-Moved-clause-went
returns-in-Moved-clause-went g c = let d = data_of c.args.mission.now in
    λ _. record {
      aloft = c.requires.aloft;
      answer = Moved;
      stepped = record { stepped = c.in-Moved.ensures.stepped; begun = record { rogues = refl; left = c.step.ensures.calls d } };
      goes = λ w. w;
    }

-- it waits
pub returns-in-NotYet-clause-under_way : goal.returns-in-NotYet-clause-under_way
returns-in-NotYet-clause-under_way g c =
    let d = data_of c.args.mission.now in let x = c.args.self.now in let y = c.step.new.self in let rs = c.args.rogues.now in
    let allows = g.R.Rogue.allows in
    (at_seats allows d (course_of d x rs) y (lefts d x) rs (c.step.ensures.calls d) (waited allows d c.args.u x y (lefts d x) rs c.requires.unit
    c.requires.under_way c.requires.aloft c.step.ensures.flies c.in-NotYet.unit c.in-NotYet.seen c.in-NotYet.ensures.stepped)).way

pub returns-in-NotYet-clause-storms : goal.returns-in-NotYet-clause-storms
returns-in-NotYet-clause-storms g c =
    let d = data_of c.args.mission.now in let x = c.args.self.now in let y = c.step.new.self in let rs = c.args.rogues.now in
    let allows = g.R.Rogue.allows in
    (at_seats allows d (course_of d x rs) y (lefts d x) rs (c.step.ensures.calls d) (waited allows d c.args.u x y (lefts d x) rs c.requires.unit
    c.requires.under_way c.requires.aloft c.step.ensures.flies c.in-NotYet.unit c.in-NotYet.seen c.in-NotYet.ensures.stepped)).storms

pub returns-in-NotYet-clause-waited : goal.returns-in-NotYet-clause-waited
returns-in-NotYet-clause-waited g c = let d = data_of c.args.mission.now in
    λ _. record {
      aloft = c.requires.aloft;
      answer = NotYet c.in-NotYet.unit c.in-NotYet.seen;
      stepped = record { stepped = c.in-NotYet.ensures.stepped; begun = record { rogues = refl; left = c.step.ensures.calls d } };
      waits = tt;
    }

-- it landed
pub returns-in-Landed-clause-under_way : goal.returns-in-Landed-clause-under_way
returns-in-Landed-clause-under_way g c =
    let d = data_of c.args.mission.now in let x = c.args.self.now in let y = c.step.new.self in let rs = c.args.rogues.now in
    let allows = g.R.Rogue.allows in
    (at_seats allows d (course_of d x rs) y (lefts d x) rs (c.step.ensures.calls d) (landed allows d c.args.u x y (lefts d x) rs c.requires.unit
    c.requires.under_way c.requires.aloft c.step.ensures.flies c.in-Landed.ensures.stepped)).way

pub returns-in-Landed-clause-storms : goal.returns-in-Landed-clause-storms
returns-in-Landed-clause-storms g c =
    let d = data_of c.args.mission.now in let x = c.args.self.now in let y = c.step.new.self in let rs = c.args.rogues.now in
    let allows = g.R.Rogue.allows in
    (at_seats allows d (course_of d x rs) y (lefts d x) rs (c.step.ensures.calls d) (landed allows d c.args.u x y (lefts d x) rs c.requires.unit
    c.requires.under_way c.requires.aloft c.step.ensures.flies c.in-Landed.ensures.stepped)).storms

pub returns-in-Landed-clause-went : goal.returns-in-Landed-clause-went
returns-in-Landed-clause-went g c = let d = data_of c.args.mission.now in
    λ _. record {
      aloft = c.requires.aloft;
      answer = Landed;
      stepped = record { stepped = c.in-Landed.ensures.stepped; begun = record { rogues = refl; left = c.step.ensures.calls d } };
      goes = λ w. w;
    }

-- it turned, and its storm began
pub begin-requires-clause-rogues : goal.begin-requires-clause-rogues
begin-requires-clause-rogues g c = c.requires.under_way.rogues

pub begin-requires-clause-unit : goal.begin-requires-clause-unit
begin-requires-clause-unit g c = let m = flown_of c.args.mission.now in let y = c.step.new.self in
    let flying : IsFlying m y = (c.requires.under_way.flies.0, c.step.ensures.flies c.requires.under_way.flies.0 c.requires.under_way.flies.1) in
    seat_low m y c.args.u flying (unit_below m y c.args.u flying c.requires.unit)

pub begin-requires-clause-storm : goal.begin-requires-clause-storm
begin-requires-clause-storm g c =
    let d = data_of c.args.mission.now in let x = c.args.self.now in let y = c.step.new.self in let rs = c.args.rogues.now in
    let allows = g.R.Rogue.allows in
    let storm = has_storm allows d c.args.u x y (lefts d x) rs c.requires.unit c.requires.under_way c.requires.aloft c.step.ensures.flies
    c.in-Turned.ensures.stepped in (
      storm.0,
      storm.1,
      ap (λ (ls : List ℕ). slice_index ls c.args.u) (c.step.ensures.calls d) ∙
          (c.requires.under_way.left.each c.args.u (unit_low d.units c.args.u c.requires.unit)).before storm.0 storm.1 c.requires.aloft,
    )

pub returns-in-Turned-clause-under_way : goal.returns-in-Turned-clause-under_way
returns-in-Turned-clause-under_way g c =
    let d = data_of c.args.mission.now in let m = flown_of c.args.mission.now in let x = c.args.self.now in let y = c.step.new.self in
    let z = c.begin.new.self in let rs = c.args.rogues.now in let allows = g.R.Rogue.allows in
    (turned allows d c.args.u x z (lefts d x) rs c.requires.unit c.requires.under_way c.requires.aloft (λ w flies. flies_on y z c.begin.ensures.rest
    m w (c.step.ensures.flies w flies)) (stepped_on y z c.begin.ensures.rest m c.args.u x Turned c.in-Turned.ensures.stepped) (lefts d z)
    c.begin.new.rogues (subst (λ (ls : List ℕ). BeginsStorm allows d c.args.u rs ls c.begin.new.rogues (lefts d z)) (c.step.ensures.calls d)
    c.begin.ensures.begun)).way

pub returns-in-Turned-clause-layout : goal.returns-in-Turned-clause-layout
returns-in-Turned-clause-layout g c =
    let d = data_of c.args.mission.now in let m = flown_of c.args.mission.now in let x = c.args.self.now in let y = c.step.new.self in
    let z = c.begin.new.self in let rs = c.args.rogues.now in let allows = g.R.Rogue.allows in
    (turned allows d c.args.u x z (lefts d x) rs c.requires.unit c.requires.under_way c.requires.aloft (λ w flies. flies_on y z c.begin.ensures.rest
    m w (c.step.ensures.flies w flies)) (stepped_on y z c.begin.ensures.rest m c.args.u x Turned c.in-Turned.ensures.stepped) (lefts d z)
    c.begin.new.rogues (subst (λ (ls : List ℕ). BeginsStorm allows d c.args.u rs ls c.begin.new.rogues (lefts d z)) (c.step.ensures.calls d)
    c.begin.ensures.begun)).layout

pub returns-in-Turned-clause-storms : goal.returns-in-Turned-clause-storms
returns-in-Turned-clause-storms g c =
    let d = data_of c.args.mission.now in let m = flown_of c.args.mission.now in let x = c.args.self.now in let y = c.step.new.self in
    let z = c.begin.new.self in let rs = c.args.rogues.now in let allows = g.R.Rogue.allows in
    (turned allows d c.args.u x z (lefts d x) rs c.requires.unit c.requires.under_way c.requires.aloft (λ w flies. flies_on y z c.begin.ensures.rest
    m w (c.step.ensures.flies w flies)) (stepped_on y z c.begin.ensures.rest m c.args.u x Turned c.in-Turned.ensures.stepped) (lefts d z)
    c.begin.new.rogues (subst (λ (ls : List ℕ). BeginsStorm allows d c.args.u rs ls c.begin.new.rogues (lefts d z)) (c.step.ensures.calls d)
    c.begin.ensures.begun)).storms

pub returns-in-Turned-clause-went : goal.returns-in-Turned-clause-went
returns-in-Turned-clause-went g c =
    let d = data_of c.args.mission.now in let m = flown_of c.args.mission.now in let x = c.args.self.now in let y = c.step.new.self in
    let z = c.begin.new.self in let rs = c.args.rogues.now in let allows = g.R.Rogue.allows in
    λ _. record {
      aloft = c.requires.aloft;
      answer = Turned;
      stepped = record {
        stepped = (stepped_on y z c.begin.ensures.rest m c.args.u x Turned c.in-Turned.ensures.stepped);
        begun = (subst (λ (ls : List ℕ). BeginsStorm allows d c.args.u rs ls c.begin.new.rogues (lefts d
            z))
            (c.step.ensures.calls d) c.begin.ensures.begun);
      };
      goes = λ w. w;
    }
