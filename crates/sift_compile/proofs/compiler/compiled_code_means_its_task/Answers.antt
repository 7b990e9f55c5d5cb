use Rattle.sift_compile.proofs.Giving.{means_its_task}
use Rattle.sift_compile.proofs.compiler.compiled_code_means_its_task.Goals as goal

-- a run of a sound task's code gives what the task means
pub returns : goal.returns
returns c = means_its_task
