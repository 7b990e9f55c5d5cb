use Rattle.sift_mission.specs.Parts.{data_of}
use Rattle.sift_alone.specs.laws.Both.{both_ok, map_ok}
use Rattle.sift_alone.specs.laws.Flown.{flight_of}
use Rattle.sift_run.proofs.flying.fly_together.Goals as goal

pub returns-clause-whole : goal.returns-clause-whole
returns-clause-whole g c =
    both_ok c.fly_threads.result _ _ _ c.fly_threads.ensures.logged c.fly_threads.ensures.round
    (λ flight logged round. c.round_flights_are_whole.ensures (data_of c.args.mission.now) round.1.strays flight c.a_mission_fits.ensures.parts logged round.1.round)

pub returns-clause-round : goal.returns-clause-round
returns-clause-round g c =
    map_ok c.fly_threads.result _ _ c.fly_threads.ensures.round (λ flight round. flight_of g.R.Rogue.allows (data_of c.args.mission.now) _ round.0 flight round.1)
