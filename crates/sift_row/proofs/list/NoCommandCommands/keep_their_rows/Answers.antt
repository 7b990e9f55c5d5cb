use Rattle.sift_row.proofs.Kept.{none_kept}
use Rattle.sift_row.proofs.list.NoCommandCommands.keep_their_rows.Goals as goal

pub returns : goal.returns
returns g c = λ means. none_kept
