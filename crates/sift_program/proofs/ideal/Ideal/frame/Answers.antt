use Rattle.std.proofs.Common.{◌≡◌, length, sym, ap, ◌∙◌, arith}
use Rattle.std.proofs.lemmas.List.{length-map}
use Rattle.std.proofs.lemmas.Grind.{common_steps}
use Rattle.sift_lang.specs.Tree.{tree_of}
use Rattle.sift_program.specs.Program.{program_of}
use Rattle.sift_program.proofs.lemmas.Frames.{tree_at, words_made-next, CanRun-at, length-ideal_frame}
use Rattle.sift_program.proofs.ideal.Ideal.frame.Goals.{then-contains, else-contains}
use Rattle.sift_program.proofs.ideal.Ideal.frame.Goals as goal

pub hold-requires : goal.hold-requires
hold-requires c =
    let can = CanRun-at _ c.args.program.now _ _ _ _ c.self.inside.words.items c.args.agreed.now c.args.shed.now
    c.requires.sound c.deref-task-items.ensures.value c.loop-number-test.true c.task-item.is c.loop-number.invariant in
    record {
      held = rw (c.deref.ensures.0, c.self.view_is, ← c.requires.a_start_each) can.held;
      room = can.room;
    }

pub run-requires : goal.run-requires
run-requires c =
    let can = CanRun-at _ c.args.program.now _ _ _ _ c.self.inside.words.items c.args.agreed.now c.args.shed.now
    c.requires.sound c.deref-task-items.ensures.value c.loop-number-test.true c.task-item.is c.loop-number.invariant in
    record {
      sound = rw (c.deref-else-contains.ensures.0, c.self.view_is, ← c.requires.a_start_each) can.sound;
      nows = can.nows;
      room = can.room;
    }

-- the words of one more task, which holds or runs
pub loop-number-preserved : goal.loop-number-preserved
loop-number-preserved c =
    let here = tree_at c.args.program.now _ _ _ c.deref-task-items.ensures.value c.loop-number-test.true c.task-item.is in
    let more = words_made-next (program_of c.args.program.now).tasks c.loop-number.number _ c.self.inside.words.items c.args.agreed.now c.args.shed.now
    _ c.contains.result here (sym c.contains.ensures.value) c.loop-number.invariant in
    elim c.if-contains.branch [
      | then-contains w ↦ rw (w.made-is, w.hold.ensures, w.deref.ensures.0) (sym (rw w.if-contains.true at more))
      | else-contains w ↦ rw (w.made-is, w.run.ensures, w.deref-else-contains.ensures.0) (sym (rw w.if-contains.false at more))
    ]

-- a word for each start
pub returns-clause-as_many : goal.returns-clause-as_many
returns-clause-as_many c =
    let program = program_of c.args.program.now in
    let long = ap length c.deref-task-items.ensures.value in
    let all : c.loop-number.number ≡ length program.tasks =
    omega (arith, length-map c.args.program.now.tasks.items tree_of, long, c.loop-number-test.false, c.loop-number.auto.number-end) in
    let made = length-ideal_frame program c.self.inside.words.items c.args.agreed.now c.args.shed.now in
    ap length c.loop-number.invariant ∙ (rw all made ∙ (sym c.requires.sound.a_start_each ∙ c.requires.a_start_each))

pub returns-clause-ideal : goal.returns-clause-ideal
returns-clause-ideal c = grind (arith, common_steps)
