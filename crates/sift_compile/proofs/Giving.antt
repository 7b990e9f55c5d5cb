-- A run of a task's code gives what the task means.
use Rattle.std.proofs.Common.{◌≡◌, ℕ, ◌+◌, List, [], length, replicate, refl, subst, arith}
use Rattle.std.proofs.lemmas.List.{length-replicate}
use Rattle.sift_code.specs.Machine.{Inputs, local_count, start_state}
use Rattle.sift_code.specs.Bound.{bound_of}
use Rattle.sift_code.specs.Ends.{Fits, RunsTo}
use Rattle.sift_lang.specs.Tree.{TaskTree}
use Rattle.sift_lang.specs.Meaning.{State, after_all}
use Rattle.sift_lang.specs.Sound.{Bounds, IsSound}
use Rattle.sift_code.proofs.lemmas.Ending.{sound_ends}
use Rattle.sift_lang.specs.laws.States.{HasSizes}
use Rattle.sift_compile.specs.Code.{task_code, task_program}
use Rattle.sift_compile.specs.Correct.{meaning_of, Means}
use Rattle.sift_compile.proofs.Stands.{stands_whole}
use Rattle.sift_compile.proofs.Sound.{code_is_sound}
use Rattle.sift_compile.proofs.Comes.{done_there}
use Rattle.sift_compile.proofs.Terms.{readings_from}
use Rattle.sift_compile.proofs.Between.{at, Holds}
use Rattle.sift_compile.proofs.Statements.{block_runs}

-- the program's run that comes to the end has put out what the task means
gives_meaning : (sensors words : ℕ) (task : TaskTree) → IsSound sensors words task → (inputs : Inputs)
    → Fits inputs (task_program sensors words task).limits → (outs : List ℕ) → RunsTo (task_program sensors words task) inputs outs
    → outs ≡ meaning_of task inputs
gives_meaning sensors words task sound inputs fits outs runs =
    let code = task_code task in
    let b : Bounds = record { sensors = sensors; words = words; outputs = task.outputs } in
    let t : State = record { locals = []; outs = replicate task.outputs 0 } in
    let sizes : HasSizes 0 task.outputs t = record { locals_are = refl; outs_are = length-replicate {A = ℕ} task.outputs 0 } in
    let holds : Holds 0 task.outputs (replicate local_count 0) t = record { begins = tt; long = length-replicate {A = ℕ} local_count 0; sizes = sizes } in
    let run = block_runs code inputs b fits task.body 0 0 [] (replicate local_count 0) t sound.sound_body holds (stands_whole code) in
    let there = at (0 + length code) [] run.locals (after_all task.body (readings_from inputs) t).outs in
    done_there code inputs (start_state task.outputs) there outs run.comes (omega arith) (bound_of code) runs

-- the code of a sound task means the task
pub means_its_task : (sensors words : ℕ) (task : TaskTree) → IsSound sensors words task → Means (task_program sensors words task) task
means_its_task sensors words task sound inputs fits =
    let program = task_program sensors words task in
    let run = sound_ends program (code_is_sound sensors words task sound) inputs fits in
    let is = gives_meaning sensors words task sound inputs fits run.0 run.1 in
    subst (RunsTo program inputs) is run.1
