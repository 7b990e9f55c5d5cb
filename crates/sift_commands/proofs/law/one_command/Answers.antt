use Rattle.std.proofs.Common.{refl}
use Rattle.sift_commands.proofs.law.one_command.Goals as goal

-- the words of the list differ
pub returns : goal.returns
returns g c = λ flier. (c.commands_are_kept.ensures flier).asks refl
