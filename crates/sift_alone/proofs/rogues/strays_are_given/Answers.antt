use Rattle.sift_flight.specs.Flight.{no_strays}
use Rattle.sift_rogue.specs.Rogues.{AllowsDrawn}
use Rattle.sift_alone.specs.Given.{AreGiven, resting_storms}
use Rattle.sift_alone.specs.Strays.{drawn_strays}
use Rattle.sift_alone.proofs.Strays.{calm_missions_get_none, flown_over, storms_give_draws}
use Rattle.sift_alone.proofs.rogues.strays_are_given.Goals as goal

pub returns-clause-drawn : goal.returns-clause-drawn
returns-clause-drawn g c = storms_give_draws c.drawn_storms_are_the_draws.ensures

pub returns-clause-calm : goal.returns-clause-calm
returns-clause-calm g c = calm_missions_get_none g.R.Rogue.allows

pub returns-clause-flown : goal.returns-clause-flown
returns-clause-flown g c = λ mission fits.
    flown_over (AreGiven AllowsDrawn resting_storms) c.fitting_parts_make_a_flight.ensures c.each_mission_has_a_round_flight.ensures
    mission (drawn_strays mission) fits (storms_give_draws c.drawn_storms_are_the_draws.ensures resting_storms mission)

pub returns-clause-flown_calmly : goal.returns-clause-flown_calmly
returns-clause-flown_calmly g c = λ rogues mission fits calm.
    flown_over (AreGiven g.R.Rogue.allows rogues) c.fitting_parts_make_a_flight.ensures c.each_mission_has_a_round_flight.ensures
    mission no_strays fits (calm_missions_get_none g.R.Rogue.allows rogues mission calm)
