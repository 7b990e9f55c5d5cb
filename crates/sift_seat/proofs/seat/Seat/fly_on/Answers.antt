use Rattle.std.proofs.Common.{refl, ap, ◌∙◌}
use Rattle.sift_mission.specs.Parts.{data_of}
use Rattle.sift_seat.specs.Seats.{place}
use Rattle.sift_seat.specs.Storms.{storm_at}
use Rattle.sift_seat.proofs.Seats.{manned_moved, manned_waits, manned_landed, manned_begun, done_landed, storm_turned, unit_kept, comes_stepped, comes_begun}
use Rattle.sift_seat.proofs.seat.Seat.fly_on.Goals as goal

-- the unit moved
pub returns-in-Moved-clause-manned : goal.returns-in-Moved-clause-manned
returns-in-Moved-clause-manned g c = manned_moved (data_of c.args.mission.now) (g.T.Look.view c.args.port.now) c.args.self.now c.requires.manned c.requires.flies
    c.step.new.self (g.T.Look.view c.step.new.port) c.step.ensures.drives c.step.ensures.left (g.T.Look.stands c.step.new.port) c.in-Moved.ensures.steps

pub returns-in-Moved-clause-comes : goal.returns-in-Moved-clause-comes
returns-in-Moved-clause-comes g c = comes_stepped g.T.Look.follows g.R.Rogue.allows (data_of c.args.mission.now) g.met.T.Look.follows_on
    (place c.args.self.now c.args.port.now c.args.rogue.now) (place c.step.new.self c.step.new.port c.args.rogue.now)
    (unit_kept (data_of c.args.mission.now) (g.T.Look.view c.args.port.now) c.args.self.now c.requires.manned c.requires.flies
    c.step.new.self (g.T.Look.view c.step.new.port) c.step.ensures.drives c.step.ensures.left (g.T.Look.stands c.step.new.port) c.step.result c.step.ensures.steps)
    c.step.ensures.left refl c.step.ensures.follows

-- it waits
pub returns-in-NotYet-clause-manned : goal.returns-in-NotYet-clause-manned
returns-in-NotYet-clause-manned g c = manned_waits (data_of c.args.mission.now) (g.T.Look.view c.args.port.now) c.args.self.now c.requires.manned c.requires.flies
    c.step.new.self (g.T.Look.view c.step.new.port) c.step.ensures.drives c.step.ensures.left (g.T.Look.stands c.step.new.port)
    c.in-NotYet.unit c.in-NotYet.seen c.in-NotYet.ensures.steps

pub returns-in-NotYet-clause-comes : goal.returns-in-NotYet-clause-comes
returns-in-NotYet-clause-comes g c = comes_stepped g.T.Look.follows g.R.Rogue.allows (data_of c.args.mission.now) g.met.T.Look.follows_on
    (place c.args.self.now c.args.port.now c.args.rogue.now) (place c.step.new.self c.step.new.port c.args.rogue.now)
    (unit_kept (data_of c.args.mission.now) (g.T.Look.view c.args.port.now) c.args.self.now c.requires.manned c.requires.flies
    c.step.new.self (g.T.Look.view c.step.new.port) c.step.ensures.drives c.step.ensures.left (g.T.Look.stands c.step.new.port) c.step.result c.step.ensures.steps)
    c.step.ensures.left refl c.step.ensures.follows

-- it landed
pub returns-in-Landed-clause-manned : goal.returns-in-Landed-clause-manned
returns-in-Landed-clause-manned g c = manned_landed (data_of c.args.mission.now) (g.T.Look.view c.args.port.now) c.args.self.now c.requires.manned c.requires.flies
    c.step.new.self (g.T.Look.view c.step.new.port) c.step.ensures.drives c.step.ensures.left (g.T.Look.stands c.step.new.port) c.in-Landed.ensures.steps

pub returns-in-Landed-clause-comes : goal.returns-in-Landed-clause-comes
returns-in-Landed-clause-comes g c = comes_stepped g.T.Look.follows g.R.Rogue.allows (data_of c.args.mission.now) g.met.T.Look.follows_on
    (place c.args.self.now c.args.port.now c.args.rogue.now) (place c.step.new.self c.step.new.port c.args.rogue.now)
    (unit_kept (data_of c.args.mission.now) (g.T.Look.view c.args.port.now) c.args.self.now c.requires.manned c.requires.flies
    c.step.new.self (g.T.Look.view c.step.new.port) c.step.ensures.drives c.step.ensures.left (g.T.Look.stands c.step.new.port) c.step.result c.step.ensures.steps)
    c.step.ensures.left refl c.step.ensures.follows

pub returns-in-Landed-clause-done : goal.returns-in-Landed-clause-done
returns-in-Landed-clause-done g c = done_landed (data_of c.args.mission.now) (g.T.Look.view c.args.port.now) c.args.self.now c.requires.manned c.requires.flies
    c.step.new.self (g.T.Look.view c.step.new.port) c.step.ensures.drives c.step.ensures.left (g.T.Look.stands c.step.new.port) c.in-Landed.ensures.steps

-- it turned, and its storm began
pub begin-requires : goal.begin-requires
begin-requires g c = let storm = storm_turned (data_of c.args.mission.now) (g.T.Look.view c.args.port.now) c.args.self.now c.requires.manned c.requires.flies
    c.step.new.self (g.T.Look.view c.step.new.port) c.step.ensures.drives c.step.ensures.left (g.T.Look.stands c.step.new.port) c.in-Turned.ensures.steps in
    (storm.0, ap (storm_at (data_of c.args.mission.now)) (c.unit-unit.ensures ∙ c.step.ensures.drives.unit) ∙ storm.1)

pub returns-in-Turned-clause-manned : goal.returns-in-Turned-clause-manned
returns-in-Turned-clause-manned g c = manned_begun (data_of c.args.mission.now) (g.T.Look.view c.args.port.now) c.args.self.now c.requires.manned c.requires.flies
    c.step.new.self (g.T.Look.view c.step.new.port) c.step.ensures.drives c.step.ensures.left (g.T.Look.stands c.step.new.port)
    g.R.Rogue.allows c.unit-unit.result (c.unit-unit.ensures ∙ c.step.ensures.drives.unit) c.args.rogue.now c.begin.new.rogue c.begin.new.self c.begin.ensures
    c.in-Turned.ensures.steps

pub returns-in-Turned-clause-comes : goal.returns-in-Turned-clause-comes
returns-in-Turned-clause-comes g c = λ w came.
    comes_begun g.T.Look.follows g.R.Rogue.allows (data_of c.args.mission.now) g.met.T.Look.follows_on c.storms_add_up.ensures
    (place c.step.new.self c.step.new.port c.args.rogue.now) (place c.begin.new.self c.step.new.port c.begin.new.rogue) c.unit-unit.result
    (c.step.ensures.left ∙ c.requires.flies) refl (c.unit-unit.ensures ∙ c.step.ensures.drives.unit) c.begin.ensures w
    (comes_stepped g.T.Look.follows g.R.Rogue.allows (data_of c.args.mission.now) g.met.T.Look.follows_on
    (place c.args.self.now c.args.port.now c.args.rogue.now) (place c.step.new.self c.step.new.port c.args.rogue.now)
    (unit_kept (data_of c.args.mission.now) (g.T.Look.view c.args.port.now) c.args.self.now c.requires.manned c.requires.flies
    c.step.new.self (g.T.Look.view c.step.new.port) c.step.ensures.drives c.step.ensures.left (g.T.Look.stands c.step.new.port) c.step.result c.step.ensures.steps)
    c.step.ensures.left refl c.step.ensures.follows w came)
