use Rattle.sift_mission.specs.Parts.{data_of}
use Rattle.sift_alone.specs.laws.Both.{both_ok, map_ok}
use Rattle.sift_alone.specs.laws.Flown.{flight_of}
use Rattle.sift_alone.proofs.flying.fly_alone.Goals as goal

pub returns-clause-whole : goal.returns-clause-whole
returns-clause-whole g c =
    both_ok c.fly.result _ _ _ c.fly.ensures.logged c.fly.ensures.round
    (λ flight logged round. c.round_flights_are_whole.ensures (data_of c.args.mission.now) round.strays flight c.a_mission_fits.ensures.parts logged round.round)

pub returns-clause-round : goal.returns-clause-round
returns-clause-round g c = rw (← c.as_mut_slice.ensures.value)
    (map_ok c.fly.result _ _ c.fly.ensures.round (λ flight round. flight_of g.R.Rogue.allows (data_of c.args.mission.now) _ _ flight round))

pub returns-clause-ordered : goal.returns-clause-ordered
returns-clause-ordered g c = rw (← c.as_mut_slice.ensures.value)
    (map_ok c.fly.result _ _ c.fly.ensures.ordered (λ flight ordered. (_, ordered)))
