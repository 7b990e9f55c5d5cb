use Rattle.sift_skew.proofs.lemmas.Keeps.{readers_are_kept_with_margin}
use Rattle.sift_skew.proofs.clocks.readers_are_kept_with_margin.Goals as goal

pub returns : goal.returns
returns c = readers_are_kept_with_margin
