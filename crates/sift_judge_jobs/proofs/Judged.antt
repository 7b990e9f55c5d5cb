-- The report that `run` gives is judged yes.
use Rattle.std.proofs.Common.{◌≡◌, ◌∙◌, inl, inr, ℕ, List, ap, refl, subst, sym}
use Rattle.sift_jobs.specs.Flights.{Flying}
use Rattle.sift_jobs.specs.Run.{IsReported, RunIsHeadlined}
use Rattle.sift_jobs.specs.declared.run.RunJob.{RunJob}
use Rattle.sift_judge.specs.Laws.{OneVerdict}
use Rattle.sift_judge.specs.Verdict.{IsVerdict}
use Rattle.sift_judge.specs.declared.judging.Verdict.TheVariants.{Yes}
use Rattle.sift_load.specs.Laws.{OneMissionIsStated, StatedMissionsAreUnrefused}
use Rattle.sift_load.specs.Loads.{LoadsThen, States}
use Rattle.sift_mission.specs.Data.{MissionData}
use Rattle.sift_mission.specs.Flown.{flown}
use Rattle.sift_reply.specs.Reply.{Reply, done}
use Rattle.sift_report.specs.Headline.{ReportHeadline}
use Rattle.sift_report.specs.Sheet.{sheet_of}
use Rattle.sift_line.specs.Texts.{LinesComeApart, texts_of}
use Rattle.sift_report.specs.Versions.{SheetsHaveTheirVersion}
use Rattle.sift_line.specs.declared.line.ReportLine.{ReportLine}
use Rattle.sift_line.specs.declared.line.Version.{Version}
use Rattle.sift_judge_jobs.specs.Divided.{AreDivided}
use Rattle.sift_judge_jobs.specs.Judge.{JudgeGives, ReportGives, told}
use Rattle.sift_judge_jobs.specs.Judged.{RunsAreJudgedYes}
use Rattle.sift_judge_jobs.specs.Lines.{AreRead}
use Rattle.sift_judge_jobs.specs.declared.judge.JudgeJob.{JudgeJob}
use Rattle.sift_judge_jobs.proofs.Divisions.{one_document, one_report}
use Rattle.sift_judge_jobs.proofs.Readings.{not_both}

-- ---- what `judge` gives to a report that is that of lines with the headline

module _ (version : Version) (document report : List ℕ) (mission : MissionData) (lines : List ReportLine)
    (verdicts : OneVerdict) (read : AreRead version report lines) (yes : IsVerdict mission lines Yes) where
  -- these are the lines that are read, and yes is their verdict
  of_report : (came : Reply) → ReportGives version report mission came → came ≡ told Yes
  of_report came (inl (others, verdict, all_read, is_verdict, is)) =
      let here = subst (λ (ls : List ReportLine). IsVerdict mission ls Yes) (all_read.only lines read) yes in
      is ∙ ap told (verdicts mission others verdict Yes is_verdict here)
  of_report came (inr (number, first, is)) = absurd (not_both version report lines number read first)

  module _ (one_mission : OneMissionIsStated) (unrefused : StatedMissionsAreUnrefused) (stated : States document mission) where
    -- the document states this mission
    of_document : (came : Reply) → LoadsThen (ReportGives version report) document came → came ≡ told Yes
    of_document came (inl (other, states, gives)) =
        of_report came (subst (λ (m : MissionData). ReportGives version report m came) (one_mission document other mission states stated) gives)
    of_document came (inr (why, none, is)) = absurd (unrefused document mission why stated none)

    -- the input is divided into these two
    of_input : (job : JudgeJob) (bytes : List ℕ) (came : Reply) → version ≡ job.version → AreDivided bytes document report → JudgeGives job bytes came
        → came ≡ told Yes
    of_input job bytes came same divided (inl (none, is)) = absurd (none document report divided.between)
    of_input job bytes came same divided (inr (document', report', divided', gives)) =
        let of_version = subst (λ (v : Version). LoadsThen (ReportGives v report') document' came) (sym same) gives in
        let of_same = subst (λ (behind : List ℕ). LoadsThen (ReportGives version behind) document' came)
        (one_report bytes document' report' document report divided' divided) of_version in
        of_document came (subst (λ (front : List ℕ). LoadsThen (ReportGives version report) front came)
        (one_document bytes document' report' document report divided' divided) of_same)

-- ---- the report of `run` is one

-- the sheet's lines are read from it
sheet_read :
    (flying : Flying) → SheetsHaveTheirVersion → LinesComeApart
    → (run : RunJob) (document report : List ℕ) (is : IsReported flying ReportHeadline run document report)
    → AreRead run.version report (sheet_of (flown is.mission) is.flight run.version)
sheet_read flying versions apart run document report is = record {
  all = λ k d low. record { holds = is.told.0 k d low; told = versions (flown is.mission) is.flight run.version k d low };
  texts = apart (sheet_of (flown is.mission) is.flight run.version) is.told.0 ∙ ap texts_of (sym is.told.1);
}

-- a report that `run` gives to a document is judged yes behind that document, in the same version
pub judged_yes :
    (flying : Flying) → OneVerdict → SheetsHaveTheirVersion → LinesComeApart
    → OneMissionIsStated → StatedMissionsAreUnrefused → RunIsHeadlined flying → RunsAreJudgedYes flying
judged_yes flying verdicts versions apart one_mission unrefused headlined run judge document report came same gives divided judged =
    let is : IsReported flying ReportHeadline run document report = headlined run document (done report) gives refl in
    of_input run.version document report is.mission (sheet_of (flown is.mission) is.flight run.version) verdicts
    (sheet_read flying versions apart run document report is) is.holds one_mission unrefused is.stated judge _ came same divided judged
