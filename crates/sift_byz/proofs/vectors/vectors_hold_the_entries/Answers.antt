use Rattle.sift_byz.proofs.Entries.{vectors_hold_the_entries}
use Rattle.sift_byz.proofs.vectors.vectors_hold_the_entries.Goals as goal

pub returns : goal.returns
returns c = vectors_hold_the_entries
