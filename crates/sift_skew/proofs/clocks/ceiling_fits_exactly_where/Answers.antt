use Rattle.sift_skew.proofs.Ceilings.{ceiling_fits_exactly_where}
use Rattle.sift_skew.proofs.clocks.ceiling_fits_exactly_where.Goals as goal

pub returns : goal.returns
returns c = ceiling_fits_exactly_where
