use Rattle.std.proofs.Common.{refl}
use Rattle.sift_unit.specs.Boards.{desk_of}
use Rattle.sift_unit.proofs.Driving.{early_next, room_next, flies_here, looks_drive, turn_keeps, turn_drives}
use Rattle.sift_unit.proofs.Continuing.{turn_turns, waits}
use Rattle.sift_unit.proofs.Marks.{range_as}
use Rattle.sift_unit.proofs.board.Board.turn.Goals as goal

-- it may turn
pub turn-requires : goal.turn-requires
turn-requires g c =
    let v = g.T.Look.view c.args.port.now in
    (flies_here _ c.args.self.now v c.requires.drives (early_next _ c.args.self.now v c.requires.drives c.requires.next)).going.left

-- and end its frame
pub end_frame-requires-clause-may : goal.end_frame-requires-clause-may
end_frame-requires-clause-may g c = record {
  walks = record { fits = c.requires.drives.fits; range = range_as _ _ (desk_of c.args.self.now) _ c.requires.drives.keeps };
  frame = room_next _ c.args.self.now (g.T.Look.view c.args.port.now) c.requires.drives c.requires.next;
  frames = c.requires.drives.frames;
  end = c.requires.end;
}

-- the board that has turned
pub returns-in-Entered-clause-drives : goal.returns-in-Entered-clause-drives
returns-in-Entered-clause-drives g c =
    let v = g.T.Look.view c.args.port.now in
    turn_drives _ c.args.self.now v c.requires.drives (early_next _ c.args.self.now v c.requires.drives c.requires.next) c.end_frame.new.self _
    (g.T.Look.view c.turn.new.self) c.end_frame.ensures.goes_on c.end_frame.ensures.begins (record { desk = refl; frames = refl; storm = refl; turned = refl })
    c.requires.next c.in-Entered.ensures.tried

pub returns-in-Entered-clause-steps : goal.returns-in-Entered-clause-steps
returns-in-Entered-clause-steps g c =
    let b = c.args.self.now in
    let v = g.T.Look.view c.args.port.now in
    let early = early_next _ b v c.requires.drives c.requires.next in
    let f = flies_here _ b v c.requires.drives early in
    let t = turn_keeps _ b v c.requires.drives early c.end_frame.new.self (g.T.Look.view c.turn.new.self) c.end_frame.ensures.goes_on c.end_frame.ensures.begins
    c.requires.next c.in-Entered.ensures.tried in
    turn_turns _ c.requires.drives.fits (desk_of b) c.requires.end f.going.range (room_next _ b v c.requires.drives c.requires.next)
    (desk_of c.end_frame.new.self) t.going.range c.end_frame.ensures.goes_on.place v _ f.going.left c.in-Entered.ensures.tried t.storm t.progress

-- the board that waits
pub returns-in-NotYet-clause-drives : goal.returns-in-NotYet-clause-drives
returns-in-NotYet-clause-drives g c =
    let v = g.T.Look.view c.args.port.now in
    looks_drive _ c.args.self.now v c.requires.drives (early_next _ c.args.self.now v c.requires.drives c.requires.next) (g.T.Look.view c.turn.new.self)
    c.in-NotYet.ensures.tried.own

pub returns-in-NotYet-clause-steps : goal.returns-in-NotYet-clause-steps
returns-in-NotYet-clause-steps g c =
    let b = c.args.self.now in
    let v = g.T.Look.view c.args.port.now in (
      waits _ (desk_of b) v _ _ _ (room_next _ b v c.requires.drives c.requires.next)
          (flies_here _ b v c.requires.drives (early_next _ b v c.requires.drives c.requires.next)).going.left c.in-NotYet.ensures.tried,
      c.in-NotYet.ensures.stands,
    )
