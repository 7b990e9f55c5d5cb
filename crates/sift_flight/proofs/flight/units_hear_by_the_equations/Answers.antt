use Rattle.sift_flight.proofs.Hears.{units_hear_by_the_equations}
use Rattle.sift_flight.proofs.flight.units_hear_by_the_equations.Goals as goal

pub returns : goal.returns
returns c = units_hear_by_the_equations
