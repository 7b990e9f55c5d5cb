use Rattle.std.proofs.Common.{◌≡◌, ◌<◌, ap, inl, inr, arith}
use mathlib.Core.Logic.{dite}
use native.Mathlib.Decide.{ℕ_discrete}
use Rattle.sift_mission.specs.Stops.{part_of}
use Rattle.sift_mission.specs.Parts.{flown_of}
use Rattle.sift_unit.specs.Boards.{desk_of}
use Rattle.sift_unit.proofs.Passing.{jump_onward, slot_onward}
use Rattle.sift_unit.proofs.board.Board.pass.Goals as goal

-- the jump
pub returns-then-due-self-clause-onward : goal.returns-then-due-self-clause-onward
returns-then-due-self-clause-onward c = jump_onward _ c.requires.may.walks.fits (desk_of c.args.self.now) c.requires.may.walks.range c.next_due-due.result
    c.if-self-eq0.true (let up = c.if-due-self.true in omega arith) c.next_due-due.ensures.within c.next_due-due.ensures.idle

-- past a slot that isn't said now, or was said to all
pub returns-in-Saying-clause-onward : goal.returns-in-Saying-clause-onward
returns-in-Saying-clause-onward c =
    let m = flown_of c.args.mission.now in
    let b = desk_of c.args.self.now in
    let last : b.part ≡ 2 = ap part_of c.in-Saying.is in
    let low : b.slot < m.slots = (let most = c.requires.may.walks.range.slot in let other = c.if-self-slots.false in let is = c.slots.ensures in omega arith) in
    slot_onward m c.requires.may.walks.fits b c.requires.may.walks.range low (record {
      hears = λ p. absurd (omega arith);
      runs = λ p. absurd (omega arith);
      says = λ p. dite (ℕ_discrete b.subframe (m.due b.cfg (m.kind b.slot))) (λ now. inl (c.requires.may.whole.said last low now)) (λ apart. inr apart);
    })
