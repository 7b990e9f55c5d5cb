-- What the report of a run tells, as clauses of the whole call.
use Rattle.std.specs.Prelude.{ℕ, ◌≡◌, List}
use Rattle.sift_io.specs.Reading.{TakesAll}
use Rattle.sift_jobs.specs.Flights.{Flying}
use Rattle.sift_jobs.specs.Run.{IsReported, run_row}
use Rattle.sift_jobs.specs.declared.run.RunJob.{RunJob}
use Rattle.sift_line.specs.declared.line.ReportLine.{ReportLine}
use Rattle.sift_load.specs.Loads.{document_limit}
use Rattle.sift_mission.specs.Data.{MissionData}
use Rattle.sift_reply.specs.Reply.{Input, IsWritten, Output, done_status}
use Rattle.sift_reply.specs.Promise.{IsAnswered}
use Rattle.sift_report.specs.Caught.{ReportCaught}
use Rattle.sift_report.specs.Headline.{ReportHeadline}
use Rattle.sift_row.specs.Row.{Asks}
use Rattle.sift_commands.specs.Command.{commands}

module _ (flying : Flying) where
  -- where words ask for a run and the status is 0, the input was read to its end, a text was written, and it is the report, in the version
  -- asked for, of a flight of the mission that the input states; and this holds of the mission and the report's lines
  abbrev pub IsReportWritten : (MissionData → List ReportLine → Type 0) → List (List ℕ) → Input → Output → (status : ℕ) → Type 0
  IsReportWritten Holds words input output status = (job : RunJob) → Asks (run_row flying) words job → status ≡ done_status →
      (bytes text : List ℕ) × TakesAll input.before input.after bytes document_limit × IsReported flying Holds job bytes text × IsWritten output text

  -- so the headline does
  abbrev pub IsHeadlineWritten : List (List ℕ) → Input → Output → (status : ℕ) → Type 0
  IsHeadlineWritten = IsReportWritten ReportHeadline

  -- and so does what lies cost
  abbrev pub IsCaughtWritten : List (List ℕ) → Input → Output → (status : ℕ) → Type 0
  IsCaughtWritten = IsReportWritten ReportCaught

  -- both follow from the promise
  abbrev pub ReportIsWritten : (MissionData → List ReportLine → Type 0) → Type 0
  ReportIsWritten Holds = (words : List (List ℕ)) (input : Input) (output : Output) (status : ℕ) → IsAnswered (commands flying) words input output status
      → IsReportWritten Holds words input output status
