use Rattle.std.specs.Prelude.{Option, Bool, ℕ, ℤ}
use Rattle.std.proofs.Common.{◌++◌, ◌∷◌, [], ◌<◌, not, nat_eq, ◌∙◌, sym, arith, length}
use Rattle.sift_base.specs.laws.Counts.{has_place}
use Rattle.sift_mission.specs.Parts.{flown_of}
use Rattle.sift_unit_frame.specs.Memory.{reading_at}
use Rattle.sift_unit_frame.proofs.InTurn.{passing_yes, passing_no, room_in_turn}
use Rattle.sift_unit_frame.proofs.noted.readings_of.Goals as goal
use Rattle.sift_unit_frame.proofs.noted.readings_of.Goals.{then-ne, else-ne}

-- the other unit is one of the mission
pub reading_of-requires-clause-other : goal.reading_of-requires-clause-other
reading_of-requires-clause-other c =
    c.requires.config.inside c.unit_at-other.result (has_place c.args.config.now c.loop-position.position c.unit_at-other.result c.unit_at-other.ensures)

-- there is room for one more
pub push-requires : goal.push-requires
push-requires c =
    let us = c.args.config.now in
    let f : ℕ → Option ℤ = reading_at (flown_of c.args.mission.now) c.args.unit c.args.clk.now c.args.places.now in
    let p : ℕ → Bool = λ v. not (nat_eq v c.args.unit) in
    let low : c.loop-position.position < length us = (let t = c.loop-position-test.true in let all = c.len-position-end.ensures.length in omega arith) in
    let room = room_in_turn f p us c.loop-position.position c.loop-position.readings.items c.len-position-end.ensures.config low c.loop-position.invariant in
    omega arith

-- one unit more
pub loop-position-preserved : goal.loop-position-preserved
loop-position-preserved c =
    let us = c.args.config.now in
    let f : ℕ → Option ℤ = reading_at (flown_of c.args.mission.now) c.args.unit c.args.clk.now c.args.places.now in
    let p : ℕ → Bool = λ v. not (nat_eq v c.args.unit) in
    let i = c.loop-position.position in
    let t = c.unit_at-other.result in
    elim c.if-ne.branch [
      | then-ne w ↦ (λ j. (w.readings-is j).items) ∙ w.push.ensures.items ∙ (λ j. c.loop-position.invariant j ++ w.reading_of.ensures j ∷ [])
          ∙ sym (passing_yes f p us i t c.unit_at-other.ensures (sym c.ne.ensures ∙ w.if-ne.true))
      | else-ne w ↦ (λ j. (w.readings-is j).items) ∙ c.loop-position.invariant
          ∙ sym (passing_no f p us i t c.unit_at-other.ensures (sym c.ne.ensures ∙ w.if-ne.false))
    ]
