use Rattle.sift_report.specs.Headline.{ReportHeadline}
use Rattle.sift_commands.proofs.Headline.{report_is_written}
use Rattle.sift_commands.proofs.law.the_headline_is_written.Goals as goal

pub returns : goal.returns
returns g c = λ flier.
    report_is_written (g.F.Flier.flying flier) ReportHeadline (c.one_command.ensures flier) (c.commands_have_own_statuses.ensures.apart flier)
    (c.statuses_are_explained.ensures flier) (c.run_is_headlined.ensures flier)
