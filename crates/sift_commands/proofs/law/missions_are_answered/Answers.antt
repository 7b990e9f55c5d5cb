use Rattle.sift_commands.proofs.Stated.{answered, end_well}
use Rattle.sift_commands.specs.Command.{program}
use Rattle.sift_commands.proofs.law.missions_are_answered.Goals as goal

pub returns-clause-answered : goal.returns-clause-answered
returns-clause-answered g c = λ flier. answered (program (g.F.Flier.flying flier)) (c.one_command.ensures flier) (c.commands_are_kept.ensures flier)

pub returns-clause-well : goal.returns-clause-well
returns-clause-well g c = λ flier. end_well (program (g.F.Flier.flying flier)) (c.one_command.ensures flier) (c.commands_are_kept.ensures flier)
