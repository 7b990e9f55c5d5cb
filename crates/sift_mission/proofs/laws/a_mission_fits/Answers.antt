use Rattle.sift_mission.specs.Parts.{data_of}
use Rattle.sift_mission.proofs.Flying.{storms-come}
use Rattle.sift_mission.proofs.laws.a_mission_fits.Goals as goal

pub returns-clause-fits : goal.returns-clause-fits
returns-clause-fits c = c.fitting_parts_make_a_mission.ensures (data_of c.args.mission.now) c.parts-parts.ensures.fit

pub returns-clause-storms : goal.returns-clause-storms
returns-clause-storms c = storms-come (data_of c.args.mission.now) c.parts-parts.ensures.fit c.storms_come_in_the_mission.ensures
