use Rattle.std.proofs.Common.{◌≡◌, ◌<◌, length, ap, ◌∙◌, arith}
use Rattle.sift_lang.specs.Meaning.{meaning}
use Rattle.sift_mission.specs.Parts.{data_of}
use Rattle.sift_program.specs.Program.{task_at}
use Rattle.sift_report.proofs.CompiledFrames.{put-long, put-room, put-begins}
use Rattle.sift_report.proofs.ideal.CompiledIdeal.frame.Goals as goal

-- the task is there
low : (c : goal.After-deref-in-loop-t-2) → c.loop-t.t < length (data_of c.args.mission.now).program.tasks
low c = omega (arith, c.loop-t-test.true, c.loop-t.auto.t-end, c.tasks-t-end.ensures.count)

-- its words are its meaning
are : (c : goal.After-deref-in-loop-t-2) → c.words_of-outs.result.items
    ≡ meaning (task_at (data_of c.args.mission.now).program.tasks c.loop-t.t) c.args.agreed.now c.loop-t.made.items c.args.self.now
are c = rw (c.deref-in-loop-t.ensures.0, c.loop-t.invariant.0) at c.words_of-outs.ensures.words

-- there is room for them
pub put-requires : goal.put-requires
put-requires c =
    let program = (data_of c.args.mission.now).program in
    let runs = c.a_mission_flies.ensures.program in
    rw (c.first_word.ensures, c.deref-in-loop-t-2.ensures.0)
    (put-room program c.args.self.now c.args.agreed.now _ runs.sound c.loop-t.t c.loop-t.made.items _ (low c) (c.loop-t.invariant.1 ∙ c.requires.words ∙ runs.words) (are c))

-- and they stand behind those of the tasks before
pub loop-t-preserved : goal.loop-t-preserved
loop-t-preserved c =
    let program = (data_of c.args.mission.now).program in
    let runs = c.a_mission_flies.ensures.program in
    let made = rw (c.first_word.ensures, c.deref-in-loop-t-2.ensures.0) at c.put.ensures in (
      c.words_of-outs.ensures.same ∙ c.loop-t.invariant.0,
      ap length c.put.ensures ∙ put-long c.loop-t.made.items _ _ (put-requires c.before) ∙ c.loop-t.invariant.1,
      rw made (put-begins program c.args.self.now c.args.agreed.now _ runs.sound c.loop-t.t c.loop-t.made.items _
          (low c.before) (c.loop-t.invariant.1 ∙ c.requires.words ∙ runs.words) (are c.before)
          c.loop-t.invariant.2),
    )
