use Rattle.sift_load.proofs.Loaded.{one_stated, stated_unrefused}
use Rattle.sift_load.proofs.loading.bytes_state_one_mission.Goals as goal

pub returns-clause-one : goal.returns-clause-one
returns-clause-one c = one_stated c.one_mission.ensures

pub returns-clause-unrefused : goal.returns-clause-unrefused
returns-clause-unrefused c = stated_unrefused c.missions_are_accepted.ensures
