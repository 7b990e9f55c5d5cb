use Rattle.std.proofs.Common.{◌≡◌, map}
use Rattle.toml.specs.View.{view}
use Rattle.sift_gen.specs.Scenario.{task_place, task_tables}
use Rattle.sift_gen.proofs.task.task_tables.Given as goal

-- the tables so far, and the draws that they took
abbrev pub invariant-loop-task : goal.invariant-loop-task
invariant-loop-task l = record {
  made : map view l.tables.items ≡ task_tables l.task l.sensors l.fn.draw;
  drawn : l.draw ≡ task_place l.task l.fn.draw;
}
