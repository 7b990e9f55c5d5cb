use Rattle.std.proofs.Common.{◌++◌, length, replicate, ap, sym, ◌∙◌, arith}
use Rattle.sift_mission.specs.laws.ByWords.{by_word-more, by_word-room}
use Rattle.sift_mission.proofs.mission.tasks_by_word.Goals as goal

pub push_copies-requires : goal.push_copies-requires
push_copies-requires c =
    omega (arith, by_word-room c.args.tasks.now c.loop-t.t c.index-tasks-t.result c.loop-t-test.true c.index-tasks-t.is, ap length c.loop-t.invariant)

pub loop-t-preserved : goal.loop-t-preserved
loop-t-preserved c =
    let added = replicate c.index-tasks-t.result.outputs c.loop-t.t in
    c.push_copies.ensures
    ∙ (ap (λ words. words ++ added) c.loop-t.invariant
    ∙ sym (by_word-more c.args.tasks.now c.loop-t.t c.index-tasks-t.result c.loop-t-test.true c.index-tasks-t.is))
