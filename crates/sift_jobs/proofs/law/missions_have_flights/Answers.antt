use Rattle.sift_jobs.proofs.Existing.{flights, trials_there, votes_there}
use Rattle.sift_jobs.proofs.law.missions_have_flights.Goals as goal

pub returns-clause-flights : goal.returns-clause-flights
returns-clause-flights g c = λ flier. flights (g.F.Flier.flying flier).gives c.fitting_parts_make_a_flight.ensures c.each_mission_has_a_round_flight.ensures

pub returns-clause-votes : goal.returns-clause-votes
returns-clause-votes g c = λ flier.
    votes_there (g.F.Flier.flying flier).gives c.fitting_parts_make_a_flight.ensures c.each_mission_has_a_round_flight.ensures c.stated_missions_fit.ensures

pub returns-clause-trials : goal.returns-clause-trials
returns-clause-trials g c = λ flier.
    trials_there (g.F.Flier.flying flier).gives c.fitting_parts_make_a_flight.ensures c.each_mission_has_a_round_flight.ensures c.stated_missions_fit.ensures c.drawn_trees_are_missions.ensures
