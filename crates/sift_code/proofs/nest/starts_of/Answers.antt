use Rattle.std.proofs.Common.{◌≡◌, ◌+◌, ◌-◌, length, arith, sym, ◌∙◌, ap}
use Rattle.std.specs.Prelude.{Some, None, slice_index_or}
use Rattle.std.proofs.lemmas.Grind.{common_steps}
use Rattle.sift_code.specs.Nest.{start_at}
use Rattle.sift_code.proofs.Tables.{tells_above, read_to, read_instr, started, start_at-Begin, start_at-Begin_alone, start_at-End, start_at-End_alone, start_at-other}
use Rattle.sift_code.proofs.nest.starts_of.Goals.{in-Begin+in-Some, in-Begin+in-None, in-End+in-Some-index, in-End+in-None-index, in_default}
use Rattle.sift_code.proofs.nest.starts_of.Goals as goal

-- the Begin of the innermost loop is before
pub overflow_sub-start : goal.overflow_sub-start
overflow_sub-start c =
    let e = read_to (start_at c.args.code.now) c.loop-at.at
    (length c.args.code.now) c.loop-at.starts.items c.loop-at.at c.index-in-End.result.now c.loop-at.invariant (omega arith)
    (omega arith) c.index-in-End.ensures in
    omega (arith, (started c.args.code.now c.loop-at.at c.in-Some-index.start (sym e ∙ c.in-Some-index.is)).2.next)

pub index-requires-in-Some-index : goal.index-requires-in-Some-index
index-requires-in-Some-index c =
    let e = read_to (start_at c.args.code.now) c.loop-at.at
    (length c.args.code.now) c.loop-at.starts.items c.loop-at.at c.index-in-End.result.now c.loop-at.invariant (omega arith)
    (omega arith) c.index-in-End.ensures in
    omega (arith, (started c.args.code.now c.loop-at.at c.in-Some-index.start (sym e ∙ c.in-Some-index.is)).2.early, c.loop-at.invariant.0)

-- one more place has its entry
pub loop-at-preserved : goal.loop-at-preserved
loop-at-preserved c =
    let at = read_instr c.args.code.now c.loop-at.at c.index-code-at.result (omega arith) c.index-code-at.is in
    let told = tells_above (start_at c.args.code.now) c.loop-at.at (length c.args.code.now) c.loop-at.starts.items c.match-instr.entry (omega arith) c.loop-at.invariant in
    elim c.match-instr.branch [
      | in-Begin+in-Some w ↦ (
          let past : slice_index_or c.args.pasts.now (c.loop-at.at + 1) None ≡ Some w.in-Some.field-0 = w.in-Some.is in
          let is = sym (c.requires.tell.entries (c.loop-at.at + 1) (omega arith)) ∙ past in
          told (w.entry-is ∙ sym (start_at-Begin c.args.code.now c.loop-at.at w.in-Begin.field-0 w.in-Some.field-0 (at ∙ ap Some w.in-Begin.is) is)))
      | in-Begin+in-None w ↦ (
          let past : slice_index_or c.args.pasts.now (c.loop-at.at + 1) None ≡ None = w.in-None.is in
          let is = sym (c.requires.tell.entries (c.loop-at.at + 1) (omega arith)) ∙ past in
          let here = read_to (start_at c.args.code.now) c.loop-at.at
          (length c.args.code.now) c.loop-at.starts.items c.loop-at.at w.index.result.now c.loop-at.invariant (omega arith)
          (omega arith) w.index.ensures in
          told (w.entry-is ∙ (here ∙ sym (start_at-Begin_alone c.args.code.now c.loop-at.at w.in-Begin.field-0 (at ∙ ap Some w.in-Begin.is) is))))
      | in-End+in-Some-index w ↦ (
          let here = read_to (start_at c.args.code.now) c.loop-at.at
          (length c.args.code.now) c.loop-at.starts.items c.loop-at.at w.index-in-End.result.now c.loop-at.invariant (omega arith)
          (omega arith) w.index-in-End.ensures in
          let start : start_at c.args.code.now c.loop-at.at ≡ Some w.in-Some-index.start = sym here ∙ w.in-Some-index.is in
          let there = read_to (start_at c.args.code.now) c.loop-at.at (length c.args.code.now) c.loop-at.starts.items
          (w.in-Some-index.start - 1) w.index-in-Some-index.result.now c.loop-at.invariant
          (omega (arith, (started c.args.code.now c.loop-at.at w.in-Some-index.start start).2.early))
          (omega arith) w.index-in-Some-index.ensures in
          told (w.entry-is ∙ (there ∙ sym (start_at-End c.args.code.now c.loop-at.at w.in-Some-index.start (at ∙ ap Some w.in-End.is) start))))
      | in-End+in-None-index w ↦ (
          let here = read_to (start_at c.args.code.now) c.loop-at.at
          (length c.args.code.now) c.loop-at.starts.items c.loop-at.at w.index-in-End.result.now c.loop-at.invariant (omega arith)
          (omega arith) w.index-in-End.ensures in
          told (w.entry-is ∙ sym (start_at-End_alone c.args.code.now c.loop-at.at (at ∙ ap Some w.in-End.is) (sym here ∙ w.in-None-index.is))))
      | in_default w ↦ (
          let here = read_to (start_at c.args.code.now) c.loop-at.at
          (length c.args.code.now) c.loop-at.starts.items c.loop-at.at w.index-in_default.result.now c.loop-at.invariant (omega arith)
          (omega arith) w.index-in_default.ensures in
          told (w.entry-is ∙ (here ∙ sym (start_at-other c.args.code.now c.loop-at.at c.index-code-at.result at (w.in_default.not-Begin, w.in_default.not-End)))))
    ]

pub overflow_cast-entry : goal.overflow_cast-entry
overflow_cast-entry c = grind (arith, common_steps)
