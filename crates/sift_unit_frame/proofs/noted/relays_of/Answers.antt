use Rattle.std.specs.Prelude.{Option, Bool, ℕ}
use Rattle.std.proofs.Common.{◌++◌, ◌∷◌, [], ◌&&◌, ◌<◌, not, nat_eq, ◌∙◌, sym, arith, length}
use Rattle.sift_unit_frame.specs.Memory.{place_at}
use Rattle.sift_unit_frame.proofs.InTurn.{passing_yes, passing_no, room_in_turn}
use Rattle.sift_unit_frame.proofs.noted.relays_of.Goals as goal
use Rattle.sift_unit_frame.proofs.noted.relays_of.Goals.{then-is_third, else-is_third}

-- there is room for one more
pub push-requires : goal.push-requires
push-requires c =
    let us = c.args.config.now in
    let f : ℕ → Option ℕ = place_at c.args.places.now in
    let p : ℕ → Bool = λ v. not (nat_eq v c.args.of) && not (nat_eq v c.args.own) in
    let low : c.loop-position.position < length us = (let t = c.loop-position-test.true in let all = c.len-position-end.ensures.length in omega arith) in
    let room = room_in_turn f p us c.loop-position.position c.loop-position.relays.items c.len-position-end.ensures.config low c.loop-position.invariant in
    omega arith

-- one unit more
pub loop-position-preserved : goal.loop-position-preserved
loop-position-preserved c =
    let us = c.args.config.now in
    let f : ℕ → Option ℕ = place_at c.args.places.now in
    let p : ℕ → Bool = λ v. not (nat_eq v c.args.of) && not (nat_eq v c.args.own) in
    let i = c.loop-position.position in
    let t = c.unit_at-unit.result in
    elim c.if-is_third.branch [
      | then-is_third w ↦ (λ j. (w.relays-is j).items) ∙ w.push.ensures.items ∙ (λ j. c.loop-position.invariant j ++ w.place_of.ensures j ∷ [])
          ∙ sym (passing_yes f p us i t c.unit_at-unit.ensures (sym c.is_third.ensures ∙ w.if-is_third.true))
      | else-is_third w ↦ (λ j. (w.relays-is j).items) ∙ c.loop-position.invariant
          ∙ sym (passing_no f p us i t c.unit_at-unit.ensures (sym c.is_third.ensures ∙ w.if-is_third.false))
    ]
