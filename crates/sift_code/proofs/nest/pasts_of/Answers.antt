use Rattle.std.proofs.Common.{◌≡◌, ◌+◌, ◌-◌, length, arith, sym, ◌∙◌, ap}
use Rattle.std.specs.Prelude.{Some}
use Rattle.sift_code.specs.Nest.{past_at}
use Rattle.sift_code.proofs.Tables.{tells_below, read_from, read_instr, past_within, past_at-End, past_at-Begin, past_at-Begin_alone, past_at-other}
use Rattle.sift_code.proofs.nest.pasts_of.Goals as goal
use Rattle.sift_code.proofs.nest.pasts_of.Goals.{in-End, in-Begin+in-Some, in-Begin+in-None, in_default}

-- the place behind the End is in the table
pub index-requires-in-Some : goal.index-requires-in-Some
index-requires-in-Some c =
    let next : c.loop-at.at - 1 + 1 ≡ c.loop-at.at = omega arith in
    let e = read_from (past_at c.args.code.now) c.loop-at.at (length c.args.code.now) c.loop-at.pasts.items
    (c.loop-at.at - 1 + 1) c.index.result.now c.loop-at.invariant (omega arith) (omega arith) c.index.ensures in
    omega (arith, (past_within c.args.code.now (c.loop-at.at - 1 + 1) c.in-Some.past (omega arith) (sym e ∙ c.in-Some.is)).1, c.loop-at.invariant.0)

-- one more place has its entry
pub loop-at-preserved : goal.loop-at-preserved
loop-at-preserved c =
    let at = read_instr c.args.code.now (c.loop-at.at - 1) c.index-code-at.result (omega arith) c.index-code-at.is in
    let told = tells_below (past_at c.args.code.now) c.loop-at.at (length c.args.code.now) c.loop-at.pasts.items c.match-instr.entry (omega arith) (omega arith) c.loop-at.invariant in
    elim c.match-instr.branch [
      | in-End w ↦ told (w.entry-is ∙ sym (past_at-End c.args.code.now (c.loop-at.at - 1) (at ∙ ap Some w.in-End.is)))
      | in-Begin+in-Some w ↦ (
          let next = read_from (past_at c.args.code.now) c.loop-at.at (length c.args.code.now) c.loop-at.pasts.items
          (c.loop-at.at - 1 + 1) w.index.result.now c.loop-at.invariant (omega arith) (omega arith) w.index.ensures in
          let past : past_at c.args.code.now (c.loop-at.at - 1 + 1) ≡ Some w.in-Some.past = sym next ∙ w.in-Some.is in
          let within = past_within c.args.code.now (c.loop-at.at - 1 + 1) w.in-Some.past (omega arith) past in
          let there = read_from (past_at c.args.code.now) c.loop-at.at
          (length c.args.code.now) c.loop-at.pasts.items w.in-Some.past w.index-in-Some.result.now c.loop-at.invariant
          (omega (arith, within.0)) within.1 w.index-in-Some.ensures in
          told (w.entry-is ∙ (there ∙ sym (past_at-Begin c.args.code.now (c.loop-at.at - 1) w.in-Begin.field-0 w.in-Some.past (at ∙ ap Some w.in-Begin.is) past))))
      | in-Begin+in-None w ↦ (
          let next = read_from (past_at c.args.code.now) c.loop-at.at (length c.args.code.now) c.loop-at.pasts.items
          (c.loop-at.at - 1 + 1) w.index.result.now c.loop-at.invariant (omega arith) (omega arith) w.index.ensures in
          told (w.entry-is ∙ sym (past_at-Begin_alone c.args.code.now (c.loop-at.at - 1) w.in-Begin.field-0 (at ∙ ap Some w.in-Begin.is) (sym next ∙ w.in-None.is))))
      | in_default w ↦ (
          let next = read_from (past_at c.args.code.now) c.loop-at.at (length c.args.code.now) c.loop-at.pasts.items
          (c.loop-at.at - 1 + 1) w.index-in_default.result.now c.loop-at.invariant (omega arith)
          (omega arith) w.index-in_default.ensures in
          told (w.entry-is ∙ (next ∙ sym (past_at-other c.args.code.now (c.loop-at.at - 1) c.index-code-at.result at (w.in_default.not-Begin, w.in_default.not-End)))))
    ]
