-- What holds of the lines of each round flight holds of the report that `run` gives.
use Rattle.std.proofs.Common.{◌≡◌, List, inl, inr, sym, ap, ◌∙◌, arith}
use Rattle.sift_load.specs.Loads.{reply_to}
use Rattle.sift_load.specs.declared.loading.NoMission.{NoMission}
use Rattle.sift_load.specs.declared.loading.NoMission.TheVariants.{NotADocument, Refused}
use Rattle.sift_line.specs.declared.line.ReportLine.{ReportLine}
use Rattle.sift_mission.specs.Data.{MissionData}
use Rattle.sift_reply.specs.Reply.{Reply, done_status}
use Rattle.sift_report.specs.Printed.{IsPrinted}
use Rattle.sift_scenario.specs.Laws.{StatedMissionsFit}
use Rattle.sift_scenario.specs.declared.mission.Refused.TheVariants.{Scenario, Task, Table, Script}
use Rattle.sift_jobs.specs.Flights.{Flying}
use Rattle.sift_jobs.specs.Run.{RunIsReported}

-- no reply to bytes that state no mission has the status 0
not_done : (why : NoMission) → (reply_to why).status ≡ done_status → ⊥
not_done NotADocument is = omega (arith, is)
not_done (Refused (Scenario rule place)) is = omega (arith, is)
not_done (Refused (Task task kind at)) is = omega (arith, is)
not_done (Refused (Table size row rule)) is = omega (arith, is)
not_done (Refused (Script entry rule)) is = omega (arith, is)

-- the text of a reply of `run` with the status 0 is the report, in the version asked for, of a flight of the mission that the bytes state, and
-- so it holds of its lines
pub reported : (flying : Flying) (Holds : MissionData → List ReportLine → Type 0) → StatedMissionsFit → IsPrinted Holds
    → RunIsReported flying Holds
reported flying Holds fit printed job bytes reply (inl (mission, states, (text, (flight, flies, told), is))) status = record {
  mission = mission;
  flight = flight;
  stated = states;
  flies = flies;
  told = (told.0, ap (λ (r : Reply). r.text) is ∙ told.1);
  holds = printed mission flies.over.strays flight job.version (fit states.0 mission states.2) flies.over.round;
}
reported flying Holds fit printed job bytes reply (inr (why, none, is)) status =
    absurd (not_done why (sym (ap (λ (r : Reply). r.status) is) ∙ status))
