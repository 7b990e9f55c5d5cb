use Rattle.sift_mission.proofs.Fitting.{fits}
use Rattle.sift_mission.proofs.laws.fitting_parts_make_a_mission.Goals as goal

pub returns : goal.returns
returns c = fits c.slots_are_heard_in_time.ensures c.tasks_run_after_their_needs.ensures c.tasks_have_three_executors.ensures
