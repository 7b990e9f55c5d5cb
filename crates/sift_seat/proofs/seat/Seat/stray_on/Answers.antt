use Rattle.std.proofs.Common.{arith}
use Rattle.sift_mission.specs.Parts.{data_of}
use Rattle.sift_seat.specs.Seats.{place}
use Rattle.sift_seat.proofs.Seats.{manned_stored, comes_stored}
use Rattle.sift_seat.proofs.seat.Seat.stray_on.Goals as goal

pub store_next-requires-clause-calls : goal.store_next-requires-clause-calls
store_next-requires-clause-calls g c = (c.args.left, c.requires.left, omega arith)

pub returns-clause-manned : goal.returns-clause-manned
returns-clause-manned g c = manned_stored g.T.Look.view g.T.Look.follows g.R.Rogue.allows (data_of c.args.mission.now)
    (place c.args.self.now c.args.port.now c.args.rogue.now) (place c.store_next.new.self c.store_next.new.port c.store_next.new.rogue)
    c.requires.manned c.store_next.ensures c.boards_drive_beside_strays.ensures

pub returns-clause-comes : goal.returns-clause-comes
returns-clause-comes g c = comes_stored g.T.Look.follows g.R.Rogue.allows (data_of c.args.mission.now) g.met.T.Look.follows_on c.storms_add_up.ensures g.T.Look.view
    (place c.args.self.now c.args.port.now c.args.rogue.now) (place c.store_next.new.self c.store_next.new.port c.store_next.new.rogue)
    c.requires.manned c.store_next.ensures
