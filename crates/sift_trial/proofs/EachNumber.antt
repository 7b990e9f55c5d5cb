-- The tree of each number states a mission: what its draws give may be drawn.
use Rattle.std.proofs.Common.{◌+◌, ◌*◌, ℕ, arith}
use Rattle.sift_base.specs.Draw.{after, draw_at}
use Rattle.sift_gen.specs.Scenario.{task_place, words_each}
use Rattle.sift_trial.proofs.Mission.{AreKnown, MayBeDrawn, is_mission, mission}
use Rattle.sift_trial.proofs.Values.{draw_below}
use Rattle.sift_trial.specs.Laws.{DrawnTreesAreMissions}

-- the counts of a number
may_be_drawn : (n : ℕ) → MayBeDrawn (5 + draw_at n 0 4) (20 + draw_at n 1 181) (1 + draw_at n 2 8) (1 + draw_at n 3 12)
may_be_drawn n =
    let units = draw_below n 0 4 (omega arith) in
    let frames = draw_below n 1 181 (omega arith) in
    let sensors = draw_below n 2 8 (omega arith) in
    let tasks = draw_below n 3 12 (omega arith) in record {
      enough_units = omega arith;
      few_units = omega (arith, units);
      some_frames = omega arith;
      few_frames = omega (arith, frames);
      some_sensor = omega arith;
      few_sensors = omega (arith, sensors);
      some_task = omega arith;
      few_tasks = omega (arith, tasks);
    }

-- so each number has a mission
pub each_number : AreKnown → DrawnTreesAreMissions
each_number known n =
    let units = 5 + draw_at n 0 4 in
    let frames = 20 + draw_at n 1 181 in
    let sensors = 1 + draw_at n 2 8 in
    let tasks = 1 + draw_at n 3 12 in
    let y = after n 4 in
    let z = after y (words_each * sensors) in
    let x = task_place tasks z in
    let may = may_be_drawn n in
    (mission known units frames sensors tasks y z x may, is_mission known units frames sensors tasks y z x may)
