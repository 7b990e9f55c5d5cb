-- The statuses of the replies of `judge` are its own.
use Rattle.std.proofs.Common.{◌≡◌, inl, inr, ℕ, List, [], ◌∷◌, Contains, lit<, refl, sym, subst, arith}
use Rattle.sift_judge.specs.declared.judging.Verdict.{Verdict}
use Rattle.sift_judge.specs.declared.judging.Verdict.TheVariants.{Yes, No}
use Rattle.sift_load.specs.Laws.{StatusesAreOwn}
use Rattle.sift_mission.specs.Data.{MissionData}
use Rattle.sift_reply.specs.Reply.{Reply, done_status, shared_statuses}
use Rattle.sift_line.specs.declared.line.Version.{Version}
use Rattle.sift_judge_jobs.specs.Judge.{JudgeGives, ReportGives, judge_statuses, judged_no_status, no_line_status, told}
use Rattle.sift_judge_jobs.specs.declared.judge.JudgeJob.{JudgeJob}

-- a reply has one of these statuses, and no shared one
abbrev IsOwn : (statuses : List ℕ) → Reply → Type 0
IsOwn statuses came = Contains statuses came.status × ¬ Contains shared_statuses came.status

-- so it is where a reply that is equal to it does
same : (statuses : List ℕ) (one other : Reply) → one ≡ other → IsOwn statuses other → IsOwn statuses one
same statuses one other is own = subst (IsOwn statuses) (sym is) own

-- the statuses of replies about a report, for a mission
abbrev report_statuses : List ℕ
report_statuses = done_status ∷ no_line_status ∷ judged_no_status ∷ []

-- a verdict's reply
of_verdict : (verdict : Verdict) → IsOwn report_statuses (told verdict)
of_verdict Yes = ((0, lit< tt, refl), grind arith)
of_verdict (No frame rule) = ((2, lit< tt, refl), grind arith)

of_report : (version : Version) (report : List ℕ) (mission : MissionData) (came : Reply) → ReportGives version report mission came → IsOwn report_statuses came
of_report version report mission came (inl (lines, verdict, read, is_verdict, is)) = same report_statuses came _ is (of_verdict verdict)
of_report version report mission came (inr (number, first, is)) = same report_statuses came _ is ((1, lit< tt, refl), grind arith)

module _ (loads : (version : Version) (report : List ℕ) → StatusesAreOwn (ReportGives version report)) where
  -- the replies of `judge` have its own statuses, and none that is shared
  pub of_judge : (job : JudgeJob) (bytes : List ℕ) (came : Reply) → JudgeGives job bytes came → IsOwn judge_statuses came
  of_judge job bytes came (inl (none, is)) = same judge_statuses came _ is ((1, lit< tt, refl), grind arith)
  of_judge job bytes came (inr (document, report, divided, gives)) =
      let here = loads job.version report report_statuses (of_report job.version report) in
      (here.among document came gives, here.apart document came gives)
