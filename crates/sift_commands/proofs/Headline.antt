-- What the report of a run tells follows from the promise.
use Rattle.std.proofs.Common.{ℕ, List, Contains, sym, subst, ◌∙◌, arith}
use Rattle.sift_jobs.specs.Flights.{Flying}
use Rattle.sift_jobs.specs.Run.{RunIsReported}
use Rattle.sift_line.specs.declared.line.ReportLine.{ReportLine}
use Rattle.sift_mission.specs.Data.{MissionData}
use Rattle.sift_reply.specs.Laws.{AsksOne, ShareNoStatus, StatusesAreExplained}
use Rattle.sift_reply.specs.Reply.{done_status, shared_statuses}
use Rattle.sift_commands.specs.Command.{commands}
use Rattle.sift_commands.specs.Headline.{ReportIsWritten}
use Rattle.sift_row.specs.declared.list.Or.TheVariants.{This}

-- 0 is no shared status
done_is_own : ¬ Contains shared_statuses done_status
done_is_own = grind arith

-- where words ask for a run and the status is 0, what was written is the report of a flight of the mission that the input states, and its lines
-- tell what the report of each run tells
pub report_is_written : (flying : Flying) (Holds : MissionData → List ReportLine → Type 0) → AsksOne (commands flying) → ShareNoStatus (commands flying)
    → StatusesAreExplained (commands flying) → RunIsReported flying Holds → ReportIsWritten flying Holds
report_is_written flying Holds one own explained reported words input output status answered job asks is =
    let gave = (explained one own words input output status answered).given (record { listed = This job }) asks
    (subst (λ (n : ℕ). ¬ Contains shared_statuses n) (sym is) done_is_own) in
    (gave.0, gave.1.text, gave.2, reported job gave.0 gave.1 gave.3 (sym gave.4.0 ∙ is), gave.4.1)
