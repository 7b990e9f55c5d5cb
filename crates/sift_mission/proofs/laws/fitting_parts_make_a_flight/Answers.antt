use Rattle.sift_mission.proofs.Flying.{flyable}
use Rattle.sift_mission.proofs.laws.fitting_parts_make_a_flight.Goals as goal

pub returns : goal.returns
returns c =
    flyable c.fitting_parts_make_a_mission.ensures c.one_unit_is_steady.ensures c.faults_are_for_good.ensures
    c.working_units_say_their_words.ensures c.working_units_have_not_turned.ensures c.words_have_their_task.ensures
