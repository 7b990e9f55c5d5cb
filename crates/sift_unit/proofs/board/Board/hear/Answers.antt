use Rattle.std.proofs.Common.{refl, arith}
use Rattle.sift_unit.proofs.Driving.{may_hear_at, hear_low, hear_slot, hear_inside, hear_drives, hear_moves}
use Rattle.sift_unit.proofs.board.Board.hear.Goals as goal

pub stamp-stamp-requires-clause-slot : goal.stamp-stamp-requires-clause-slot
stamp-stamp-requires-clause-slot g c = hear_slot _ c.args.self.now (g.T.Look.view c.args.port.now) c.requires.flight c.requires.here

pub stamp-stamp-requires-clause-inside : goal.stamp-stamp-requires-clause-inside
stamp-stamp-requires-clause-inside g c = hear_inside _ c.args.self.now (g.T.Look.view c.args.port.now) c.requires.flight c.requires.here

pub hear-word-requires : goal.hear-word-requires
hear-word-requires g c =
    may_hear_at _ c.args.self.now (g.T.Look.view c.args.port.now) c.requires.flight c.requires.here
    _ _ c.in-Some.ensures.found.0 c.stamp-stamp.ensures

pub returns-in-Some-clause-drives : goal.returns-in-Some-clause-drives
returns-in-Some-clause-drives g c =
    hear_drives _ c.args.self.now (g.T.Look.view c.args.port.now) c.requires.flight c.requires.here
    _ _ _ _ _ _ (record { unit = refl; frames = refl; storm = refl; turned = refl }) refl c.from.ensures c.in-Some.ensures.found.0 c.stamp-stamp.ensures c.hear-word.ensures.heard

pub returns-in-Some-clause-moved : goal.returns-in-Some-clause-moved
returns-in-Some-clause-moved g c =
    hear_moves _ c.args.self.now (g.T.Look.view c.args.port.now) c.requires.flight c.requires.here
    _ _ _ _ _ c.in-Some.ensures.found.0 c.stamp-stamp.ensures c.hear-word.ensures.heard

-- it stands at one of the mission's units
pub unreachable-requires : goal.unreachable-requires
unreachable-requires g c =
    let low = hear_low _ c.args.self.now (g.T.Look.view c.args.port.now) c.requires.flight c.requires.here in
    let high = c.in_default.ensures.none in
    omega arith
