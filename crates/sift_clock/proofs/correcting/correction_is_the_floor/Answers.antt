use Rattle.sift_clock.specs.laws.Floors.{correction_is_the_floor}
use Rattle.sift_clock.proofs.correcting.correction_is_the_floor.Goals as goal

pub returns : goal.returns
returns c = correction_is_the_floor
