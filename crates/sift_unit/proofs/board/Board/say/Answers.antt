use Rattle.std.proofs.Common.{refl, arith}
use Rattle.sift_unit.proofs.Driving.{may_say_at, say_low, say_slot, say_inside, say_member, shape_here, say_drives, say_moves}
use Rattle.sift_unit.proofs.board.Board.say.Goals as goal

pub stamp-stamp-requires-clause-slot : goal.stamp-stamp-requires-clause-slot
stamp-stamp-requires-clause-slot g c = say_slot _ c.args.self.now (g.T.Look.view c.args.port.now) c.requires.flight c.requires.here

pub stamp-stamp-requires-clause-inside : goal.stamp-stamp-requires-clause-inside
stamp-stamp-requires-clause-inside g c = say_inside _ c.args.self.now (g.T.Look.view c.args.port.now) c.requires.flight c.requires.here

pub word_to-word-requires-clause-slot : goal.word_to-word-requires-clause-slot
word_to-word-requires-clause-slot g c = say_slot _ c.args.self.now (g.T.Look.view c.args.port.now) c.requires.flight c.requires.here

pub word_to-word-requires-clause-member : goal.word_to-word-requires-clause-member
word_to-word-requires-clause-member g c = say_member _ c.args.self.now (g.T.Look.view c.args.port.now) c.requires.flight c.requires.here

pub word_to-word-requires-clause-shape : goal.word_to-word-requires-clause-shape
word_to-word-requires-clause-shape g c = shape_here _ c.args.self.now (g.T.Look.view c.args.port.now) c.requires.flight

pub say-requires : goal.say-requires
say-requires g c =
    may_say_at _ c.args.self.now (g.T.Look.view c.args.port.now) c.requires.flight c.requires.here
    _ _ c.in-Some.ensures.found.0 c.stamp-stamp.ensures

pub returns-in-Some-clause-drives : goal.returns-in-Some-clause-drives
returns-in-Some-clause-drives g c =
    say_drives _ c.args.self.now (g.T.Look.view c.args.port.now) c.requires.flight c.requires.here
    _ _ _ _ _ (record { unit = refl; frames = refl; storm = refl; turned = refl }) refl c.in-Some.ensures.found.0 c.stamp-stamp.ensures c.word_to-word.ensures c.say.ensures.said

pub returns-in-Some-clause-moved : goal.returns-in-Some-clause-moved
returns-in-Some-clause-moved g c =
    say_moves _ c.args.self.now (g.T.Look.view c.args.port.now) c.requires.flight c.requires.here
    _ _ _ _ c.in-Some.ensures.found.0 c.stamp-stamp.ensures c.say.ensures.said

-- it stands at one of the mission's units
pub unreachable-requires : goal.unreachable-requires
unreachable-requires g c =
    let low = say_low _ c.args.self.now (g.T.Look.view c.args.port.now) c.requires.flight c.requires.here in
    let high = c.in_default.ensures.none in
    omega arith
