-- `judge` gives one reply.
use Rattle.std.proofs.Common.{◌≡◌, inl, inr, ℕ, List, sym, ap, ◌∙◌, subst}
use Rattle.sift_judge.specs.Laws.{OneVerdict}
use Rattle.sift_judge.specs.Verdict.{IsVerdict}
use Rattle.sift_load.specs.Laws.{OneReplyIsGiven}
use Rattle.sift_load.specs.Loads.{LoadsThen}
use Rattle.sift_mission.specs.Data.{MissionData}
use Rattle.sift_reply.specs.Reply.{Reply}
use Rattle.sift_row.specs.Row.{AreOne}
use Rattle.sift_line.specs.declared.line.ReportLine.{ReportLine}
use Rattle.sift_line.specs.declared.line.Version.{Version}
use Rattle.sift_judge_jobs.specs.Judge.{JudgeGives, ReportGives, no_line, told}
use Rattle.sift_judge_jobs.specs.declared.judge.JudgeJob.{JudgeJob}
use Rattle.sift_judge_jobs.proofs.Divisions.{one_document, one_report}
use Rattle.sift_judge_jobs.proofs.Readings.{not_both, one_number}

-- a report gets one reply for a mission
for_mission : OneVerdict → (version : Version) (report : List ℕ) (mission : MissionData) (one other : Reply)
    → ReportGives version report mission one → ReportGives version report mission other → one ≡ other
for_mission verdicts version report mission one other (inl (lines, verdict, read, is_verdict, is)) (inl (lines', verdict', read', is_verdict', is')) =
    let here = subst (λ (ls : List ReportLine). IsVerdict mission ls verdict) (read'.only lines read.read) is_verdict in
    is ∙ (ap told (verdicts mission lines' verdict verdict' here is_verdict') ∙ sym is')
for_mission verdicts version report mission one other (inl (lines, verdict, read, is_verdict, is)) (inr (number, first, is')) =
    absurd (not_both version report lines number read.read first)
for_mission verdicts version report mission one other (inr (number, first, is)) (inl (lines, verdict, read, is_verdict, is')) =
    absurd (not_both version report lines number read.read first)
for_mission verdicts version report mission one other (inr (number, first, is)) (inr (number', first', is')) =
    is ∙ (ap no_line (one_number version report number number' first first') ∙ sym is')

-- so bytes get one
pub one_reply : OneVerdict → ((version : Version) (report : List ℕ) → OneReplyIsGiven (ReportGives version report))
    → (job : JudgeJob) (bytes : List ℕ) → AreOne (JudgeGives job bytes) (JudgeGives job bytes)
one_reply verdicts loads job bytes one other (inl (none, is)) (inl (none', is')) = is ∙ sym is'
one_reply verdicts loads job bytes one other (inl (none, is)) (inr (document, report, divided, gives)) = absurd (none document report divided.between)
one_reply verdicts loads job bytes one other (inr (document, report, divided, gives)) (inl (none, is)) = absurd (none document report divided.between)
one_reply verdicts loads job bytes one other (inr (document, report, divided, gives)) (inr (document', report', divided', gives')) =
    let same = one_document bytes document report document' report' divided divided' in
    let same' = one_report bytes document report document' report' divided divided' in
    let there = subst (λ (behind : List ℕ). LoadsThen (ReportGives job.version behind) document' one) same'
    (subst (λ (front : List ℕ). LoadsThen (ReportGives job.version report) front one) same gives) in
    loads job.version report' document' (λ mission a b states. for_mission verdicts job.version report' mission a b) one other there gives'
