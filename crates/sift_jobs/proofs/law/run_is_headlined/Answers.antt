use Rattle.sift_report.specs.Headline.{ReportHeadline}
use Rattle.sift_jobs.proofs.Reported.{reported}
use Rattle.sift_jobs.proofs.law.run_is_headlined.Goals as goal

pub returns : goal.returns
returns g c = λ flier. reported (g.F.Flier.flying flier) ReportHeadline c.stated_missions_fit.ensures c.the_headline_is_printed.ensures
