use Rattle.std.proofs.Common.{sym, ◌∙◌}
use Rattle.sift_unit.specs.Boards.{desk_of}
use Rattle.sift_unit.proofs.Driving.{flies_here, may_enter_at, looks_drive, early_there, enter_drives}
use Rattle.sift_unit.proofs.Continuing.{enter_moves, enter_lands, waits}
use Rattle.sift_unit.proofs.Marks.{range_as}
use Rattle.sift_unit.proofs.board.Board.enter.Goals as goal

-- it is in range
pub turns_next-requires-clause-walks : goal.turns_next-requires-clause-walks
turns_next-requires-clause-walks g c =
    record { fits = c.requires.flight.drives.fits; range = range_as _ _ (desk_of c.args.self.now) _ c.requires.flight.drives.keeps }

-- and may go on
pub go_on-requires : goal.go_on-requires
go_on-requires g c = record {
  walks = record { fits = c.requires.flight.drives.fits; range = range_as _ _ (desk_of c.args.self.now) _ c.requires.flight.drives.keeps };
  frame = c.requires.flight.frame;
  frames = c.requires.flight.drives.frames;
  end = c.requires.end;
}

-- it may try
pub try_enter-requires : goal.try_enter-requires
try_enter-requires g c = may_enter_at _ c.args.self.now (g.T.Look.view c.args.port.now) c.requires.flight.drives c.requires.flight.early c.requires.flight.frame

-- it turns next
pub turn-requires-clause-next : goal.turn-requires-clause-next
turn-requires-clause-next g c = c.turns_next.ensures.turns c.if-turns_next.true

-- the board after the last frame
pub returns-then-self-frames-clause-drives : goal.returns-then-self-frames-clause-drives
returns-then-self-frames-clause-drives g c =
    enter_drives _ c.args.self.now (g.T.Look.view c.args.port.now) c.requires.flight.drives c.requires.flight.early c.go_on.new.self (g.T.Look.view c.try_enter.new.self)
    c.go_on.ensures (c.turns_next.ensures.enters c.if-turns_next.false) c.in-Entered.ensures.tried

pub returns-then-self-frames-clause-steps : goal.returns-then-self-frames-clause-steps
returns-then-self-frames-clause-steps g c =
    let b = c.args.self.now in
    let v = g.T.Look.view c.args.port.now in
    let flies = (c.turns_next.ensures.enters c.if-turns_next.false) in
    let d = enter_drives _ b v c.requires.flight.drives c.requires.flight.early c.go_on.new.self (g.T.Look.view c.try_enter.new.self) c.go_on.ensures flies c.in-Entered.ensures.tried in
    let f = flies_here _ b v c.requires.flight.drives c.requires.flight.early in
    enter_lands _ c.requires.flight.drives.fits (desk_of b) c.requires.end f.going.range c.requires.flight.frame (desk_of c.go_on.new.self)
    (range_as _ _ (desk_of c.go_on.new.self) _ d.keeps) c.go_on.ensures.place _ _ f.going.left c.in-Entered.ensures.tried c.requires.flight.drives.storms
    (early_there _ b v c.requires.flight.drives c.requires.flight.early c.go_on.new.self c.go_on.ensures flies) (c.if-self-frames.true ∙ c.frames.ensures)

-- the board in the next subframe
pub returns-else-self-frames-clause-drives : goal.returns-else-self-frames-clause-drives
returns-else-self-frames-clause-drives g c =
    enter_drives _ c.args.self.now (g.T.Look.view c.args.port.now) c.requires.flight.drives c.requires.flight.early c.go_on.new.self (g.T.Look.view c.try_enter.new.self)
    c.go_on.ensures (c.turns_next.ensures.enters c.if-turns_next.false) c.in-Entered.ensures.tried

pub returns-else-self-frames-clause-steps : goal.returns-else-self-frames-clause-steps
returns-else-self-frames-clause-steps g c =
    let b = c.args.self.now in
    let v = g.T.Look.view c.args.port.now in
    let flies = (c.turns_next.ensures.enters c.if-turns_next.false) in
    let d = enter_drives _ b v c.requires.flight.drives c.requires.flight.early c.go_on.new.self (g.T.Look.view c.try_enter.new.self) c.go_on.ensures flies c.in-Entered.ensures.tried in
    let f = flies_here _ b v c.requires.flight.drives c.requires.flight.early in
    enter_moves _ c.requires.flight.drives.fits (desk_of b) c.requires.end f.going.range c.requires.flight.frame (desk_of c.go_on.new.self)
    (range_as _ _ (desk_of c.go_on.new.self) _ d.keeps) c.go_on.ensures.place _ _ f.going.left c.in-Entered.ensures.tried
    (λ e. c.if-self-frames.false (e ∙ sym c.frames.ensures))

-- the board that waits
pub returns-in-NotYet-clause-drives : goal.returns-in-NotYet-clause-drives
returns-in-NotYet-clause-drives g c =
    looks_drive _ c.args.self.now (g.T.Look.view c.args.port.now) c.requires.flight.drives c.requires.flight.early (g.T.Look.view c.try_enter.new.self) c.in-NotYet.ensures.tried.own

pub returns-in-NotYet-clause-steps : goal.returns-in-NotYet-clause-steps
returns-in-NotYet-clause-steps g c = (
  waits _ (desk_of c.args.self.now) _ _ _ _ c.requires.flight.frame
      (flies_here _ c.args.self.now (g.T.Look.view c.args.port.now) c.requires.flight.drives c.requires.flight.early).going.left c.in-NotYet.ensures.tried,
  c.in-NotYet.ensures.stands,
)
