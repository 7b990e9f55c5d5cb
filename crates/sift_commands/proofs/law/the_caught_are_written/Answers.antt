use Rattle.sift_report.specs.Caught.{ReportCaught}
use Rattle.sift_commands.proofs.Headline.{report_is_written}
use Rattle.sift_commands.proofs.law.the_caught_are_written.Goals as goal

pub returns : goal.returns
returns g c = λ flier.
    report_is_written (g.F.Flier.flying flier) ReportCaught (c.one_command.ensures flier) (c.commands_have_own_statuses.ensures.apart flier)
    (c.statuses_are_explained.ensures flier) (c.run_tells_caught.ensures flier)
