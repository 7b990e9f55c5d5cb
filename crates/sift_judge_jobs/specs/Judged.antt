-- The report that `run` gives is judged yes.
use Rattle.std.specs.Prelude.{codes, ℕ, ◌≡◌, List, ◌++◌}
use Rattle.sift_jobs.specs.Flights.{Flying}
use Rattle.sift_jobs.specs.Run.{RunGives}
use Rattle.sift_jobs.specs.declared.run.RunJob.{RunJob}
use Rattle.sift_load.specs.Loads.{LoadsThen}
use Rattle.sift_reply.specs.Reply.{Reply, done}
use Rattle.sift_judge_jobs.specs.Divided.{AreDivided, divider}
use Rattle.sift_judge_jobs.specs.Judge.{JudgeGives}
use Rattle.sift_judge_jobs.specs.declared.judge.JudgeJob.{JudgeJob}

-- the divider between them divides a document from a report: the document is whole lines, none of which is the divider
abbrev pub IsDividedThere : (document report : List ℕ) → Type 0
IsDividedThere document report = AreDivided (document ++ (divider ++ report)) document report

-- where `run` gives the report to the document, whatever its rogues may give, each reply that `judge` gives to them in the same version is
-- yes
abbrev pub RunsAreJudgedYes : Flying → Type 0
RunsAreJudgedYes flying = (run : RunJob) (judge : JudgeJob) (document report : List ℕ) (came : Reply) → run.version ≡ judge.version
    → LoadsThen (RunGives flying run) document (done report) → IsDividedThere document report
    → JudgeGives judge (document ++ (divider ++ report)) came → came ≡ done (codes "yes\n")
