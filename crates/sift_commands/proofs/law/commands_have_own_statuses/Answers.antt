use Rattle.sift_commands.proofs.law.commands_have_own_statuses.Goals as goal

pub returns-clause-own : goal.returns-clause-own
returns-clause-own g c = λ flier. (c.commands_are_kept.ensures flier).own

pub returns-clause-apart : goal.returns-clause-apart
returns-clause-apart g c = λ flier command. ((c.commands_are_kept.ensures flier).own command).apart
