use Rattle.sift_exec.proofs.lemmas.Justice.{conviction_holds}
use Rattle.sift_exec.proofs.conviction.conviction_is_just.Goals as goal

pub returns : goal.returns
returns c = conviction_holds
