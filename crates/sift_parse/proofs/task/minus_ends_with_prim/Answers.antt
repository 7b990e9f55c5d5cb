use Rattle.sift_parse.proofs.Places.MinusLaw.{minus_ends_with_prim}
use Rattle.sift_parse.proofs.task.minus_ends_with_prim.Goals as goal

pub returns : goal.returns
returns c = minus_ends_with_prim
