use Rattle.sift_mission.specs.Parts.{data_of}
use Rattle.sift_mission.proofs.laws.a_mission_flies.Goals as goal

pub returns-clause-flyable : goal.returns-clause-flyable
returns-clause-flyable c = (c.fitting_parts_make_a_flight.ensures (data_of c.args.mission.now) c.a_mission_fits.ensures.parts).0

pub returns-clause-program : goal.returns-clause-program
returns-clause-program c = (c.fitting_parts_make_a_flight.ensures (data_of c.args.mission.now) c.a_mission_fits.ensures.parts).1
