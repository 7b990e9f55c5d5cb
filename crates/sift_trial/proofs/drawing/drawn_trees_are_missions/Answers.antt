use Rattle.std.proofs.Common.{arith}
use Rattle.sift_trial.proofs.EachNumber.{each_number}
use Rattle.sift_trial.proofs.NumberedNames.{numbered_differ, sensor_named, sensors_numbered, task_named, tasks_numbered}
use Rattle.sift_gen.specs.Tasks.{sensor_name, task_name}
use Rattle.sift_trial.proofs.drawing.drawn_trees_are_missions.Goals as goal

pub returns : goal.returns
returns c = each_number (record {
  texts = c.drawn_texts_are_tasks.ensures;
  brief = c.drawn_tasks_are_brief.ensures;
  plain = c.plain_tables_are_good.ensures;
  sensors = record {
    formed = λ k low. sensor_named k (omega (arith, low));
    differ = λ i k before low. numbered_differ sensor_name sensors_numbered i k before (omega (arith, low));
  };
  tasks = record {
    formed = λ k low. task_named k (omega (arith, low));
    differ = λ i k before low. numbered_differ task_name tasks_numbered i k before (omega (arith, low));
  };
})
