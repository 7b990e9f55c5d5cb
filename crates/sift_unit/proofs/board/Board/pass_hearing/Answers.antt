use Rattle.std.proofs.Common.{◌∙◌, sym, arith}
use Rattle.sift_unit_frame.specs.Memories.{memory_of}
use Rattle.sift_unit.specs.Boards.{desk_of}
use Rattle.sift_unit.proofs.Nearness.{near_enough}
use Rattle.sift_unit.proofs.Passing.{slot_onward, note_onward}
use Rattle.sift_unit.proofs.board.Board.pass_hearing.Goals as goal

-- its clock is near enough
pub note-requires-clause-near : goal.note-requires-clause-near
note-requires-clause-near c =
    let frame = c.requires.may.frame in
    let few = c.requires.may.walks.fits.counted.frames in
    near_enough c.args.self.now.frame c.args.self.now.clk (omega arith) c.requires.may.walks.range.clk

-- past a slot that isn't heard now
pub returns-then-self-heard_in-clause-onward : goal.returns-then-self-heard_in-clause-onward
returns-then-self-heard_in-clause-onward c =
    let part = c.requires.at.part in
    slot_onward _ c.requires.may.walks.fits (desk_of c.args.self.now) c.requires.may.walks.range c.requires.at.slot
    (record { hears = λ p s. c.if-self-heard_in.true (s ∙ sym c.heard_in.ensures); runs = λ p. absurd (omega arith); says = λ p. absurd (omega arith) })

-- past a slot that was heard
pub returns-clause-onward : goal.returns-clause-onward
returns-clause-onward c =
    let now = c.if-self-heard_in.false ∙ c.heard_in.ensures in
    note_onward _ c.requires.may.walks.fits (desk_of c.args.self.now) c.requires.may.walks.range (memory_of c.note.new.self)
    (record { part = c.requires.at.part; slot = c.requires.at.slot; other = c.requires.may.whole.heard c.requires.at.part c.requires.at.slot now; subframe = now })
    c.note.ensures.noted _ c.note.ensures.before
