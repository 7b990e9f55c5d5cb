use Rattle.sift_report.specs.Caught.{ReportCaught}
use Rattle.sift_jobs.proofs.Reported.{reported}
use Rattle.sift_jobs.proofs.law.run_tells_caught.Goals as goal

pub returns : goal.returns
returns g c = λ flier. reported (g.F.Flier.flying flier) ReportCaught c.stated_missions_fit.ensures c.caught_is_printed.ensures
