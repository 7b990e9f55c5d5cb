use Rattle.std.proofs.Common.{arith}
use Rattle.std.proofs.lemmas.Grind.{common_steps}
use Rattle.sift_mission.specs.Parts.{data_of, flown_of}
use Rattle.sift_line.specs.laws.Printed.{text_more}
use Rattle.sift_flight.specs.Told.{told}
use Rattle.sift_report.specs.Votes.{task_votes}
use Rattle.sift_report.proofs.Polls.{next_first, task_there, word_room}
use Rattle.sift_report.proofs.votes.push_unit_votes.Goals as goal

pub push_task_votes-requires-clause-words : goal.push_task_votes-requires-clause-words
push_task_votes-requires-clause-words c =
    let d = data_of c.args.mission.now in
    let there = task_there c.parts.result.now c.args.mission.now c.parts.ensures.same c.loop-t.t c.len-t-end.result c.loop-t-test.true c.len-t-end.ensures in
    record {
      task = there;
      first_is = c.loop-t.invariant.1;
      room = omega (arith, word_room d c.parts.ensures.fit c.loop-t.t there, c.loop-t.invariant.1);
    }

pub loop-t-preserved : goal.loop-t-preserved
loop-t-preserved c =
    let d = data_of c.args.mission.now in
    let there = task_there c.parts.result.now c.args.mission.now c.parts.ensures.same c.loop-t.t c.len-t-end.result c.loop-t-test.true c.len-t-end.ensures in (
      text_more (task_votes (data_of c.args.mission.now) (told (flown_of c.args.mission.now) c.args.flight.now) c.args.f c.args.u) c.loop-t.t _ _ _
          c.loop-t.invariant.0 c.in_ok-push_task_votes.ensures,
      omega (arith, next_first d.program.tasks c.loop-t.t there, c.loop-t.invariant.1, c.outputs-first.ensures),
    )

pub push_task_votes-requires-clause-tells : goal.push_task_votes-requires-clause-tells
push_task_votes-requires-clause-tells c = grind (arith, common_steps)

pub outputs-first-requires : goal.outputs-first-requires
outputs-first-requires c = grind (arith, common_steps)

pub overflow_add-first : goal.overflow_add-first
overflow_add-first c = grind (arith, common_steps)
