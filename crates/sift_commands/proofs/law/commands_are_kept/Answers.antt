use Rattle.std.proofs.Common.{refl}
use Rattle.sift_commands.proofs.Standing.{kept}
use Rattle.sift_commands.proofs.law.commands_are_kept.Goals as goal

pub returns : goal.returns
returns g c = λ flier. kept (λ command. command.listed) (λ listed. record { listed = listed }) _ (λ command. refl) (λ listed. refl)
    (c.keep_their_rows.ensures flier)
