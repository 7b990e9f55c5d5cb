use Rattle.std.proofs.Common.{subst}
use Rattle.sift_row.specs.Row.{AreOne}
use Rattle.sift_judge_jobs.specs.Judge.{JudgeGives}
use Rattle.sift_judge_jobs.specs.declared.judge.JudgeJob.{JudgeJob}
use Rattle.sift_judge_jobs.proofs.OneReply.{one_reply}
use Rattle.sift_judge_jobs.proofs.Statuses.{of_judge}
use Rattle.sift_judge_jobs.proofs.judge.JudgeJobCommand.keeps_its_row.Goals as goal

pub returns : goal.returns
returns g c = λ means. record {
  own = of_judge (λ version report. c.loading_has_own_statuses.ensures tt (record { report = record { ref_ptr = (0, 0); now = report }; version = version }));
  one = λ job other same bytes.
      subst (λ (it : JudgeJob). AreOne (JudgeGives job bytes) (JudgeGives it bytes)) same (one_reply c.lines_have_one_verdict.ensures
      (λ version report. c.loading_gives_one.ensures tt (record { report = record { ref_ptr = (0, 0); now = report }; version = version })) job bytes);
}
