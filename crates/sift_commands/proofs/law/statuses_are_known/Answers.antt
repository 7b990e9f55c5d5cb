use Rattle.sift_commands.proofs.Statuses.{known}
use Rattle.sift_commands.specs.Command.{program}
use Rattle.sift_commands.proofs.law.statuses_are_known.Goals as goal

pub returns : goal.returns
returns g c = λ flier.
    known (program (g.F.Flier.flying flier)) (c.one_command.ensures flier) (c.commands_have_own_statuses.ensures.own flier)
    (c.commands_have_own_statuses.ensures.apart flier) (c.statuses_are_explained.ensures flier)
