-- The command `judge`: whether a report is one that a mission may have.
use Rattle.std.specs.Prelude.{codes, ℕ, ◌≡◌, ◌⊎◌, List, [], ◌∷◌, Some}
use Rattle.std.specs.Fmt.{decimal}
use Rattle.std.specs.List.{concat}
use Rattle.sift_jobs.specs.Run.{report_flag, version_of}
use Rattle.sift_judge.specs.Verdict.{IsVerdict}
use Rattle.sift_judge.specs.declared.judging.Verdict.{Verdict}
use Rattle.sift_judge.specs.declared.judging.Verdict.TheVariants.{Yes, No}
use Rattle.sift_load.specs.Loads.{LoadsThen, no_mission_statuses}
use Rattle.sift_mission.specs.Data.{MissionData}
use Rattle.sift_options.specs.Options.{Given}
use Rattle.sift_reply.specs.Reply.{Reply, done, done_status}
use Rattle.sift_line.specs.declared.line.ReportLine.{ReportLine}
use Rattle.sift_line.specs.declared.line.Version.{Version}
use Rattle.sift_row.specs.Row.{Bytes, Row}
use Rattle.sift_judge_jobs.specs.Divided.{AreDivided, AreUndivided}
use Rattle.sift_judge_jobs.specs.Lines.{AreAllRead, IsFirstRefused}
use Rattle.sift_judge_jobs.specs.declared.judge.JudgeJob.{JudgeJob}

-- ---- what options ask for

-- the version of the report, the second where none is given
abbrev pub judge_job_of : Given → JudgeJob
judge_job_of options = record { version = version_of options }

-- ---- replies

-- the status where a line is none of a report, or no line divides the input
abbrev pub no_line_status : ℕ
no_line_status = 12

-- the status where a report isn't one that the mission may have
abbrev pub judged_no_status : ℕ
judged_no_status = 13

-- the reply where this line of the report, from 1 on, is the first that is none; where it is 0, no line divides the input
abbrev pub no_line : ℕ → Reply
no_line number = record { status = no_line_status; text = concat (codes "report line " ∷ decimal number ∷ codes "\n" ∷ []) }

-- the reply that tells a verdict
abbrev pub told : Verdict → Reply
told Yes = done (codes "yes\n")
told (No frame rule) =
    record { status = judged_no_status; text = concat (codes "no frame " ∷ decimal frame ∷ codes " rule " ∷ decimal rule ∷ codes "\n" ∷ []) }

-- ---- what it gives

-- for a report and a mission: the verdict on the lines that are read from the report in this version, or the first line that is refused
abbrev pub ReportGives : Version → (report : List ℕ) → MissionData → Reply → Type 0
ReportGives version report mission came =
    ((lines : List ReportLine) × (verdict : Verdict) × AreAllRead version report lines × IsVerdict mission lines verdict × (came ≡ told verdict))
    ⊎ ((number : ℕ) × IsFirstRefused version report number × (came ≡ no_line number))

-- for an input: no line divides it; or the first that does leaves a document, which states the mission or is refused, and a report
abbrev pub JudgeGives : JudgeJob → List ℕ → Reply → Type 0
JudgeGives job bytes came =
    (AreUndivided bytes × (came ≡ no_line 0))
    ⊎ ((document report : List ℕ) × AreDivided bytes document report
    × LoadsThen (ReportGives job.version report) document came)

-- the most bytes of a document, the divider and a report
abbrev pub input_limit : ℕ
input_limit = 8388608

-- the statuses of its replies
abbrev pub judge_statuses : List ℕ
judge_statuses = done_status ∷ no_line_status ∷ judged_no_status ∷ no_mission_statuses

-- its row
abbrev pub judge_row : Row JudgeJob
judge_row = record {
  word = codes "judge";
  flags = report_flag ∷ [];
  job_of = λ options. Some (judge_job_of options);
  does = λ job. Bytes input_limit (JudgeGives job);
  statuses = judge_statuses;
  by_one = λ job. job;
}
