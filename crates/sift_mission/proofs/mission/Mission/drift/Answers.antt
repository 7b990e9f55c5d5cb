use Rattle.sift_mission.proofs.Rows.{drift-low}
use Rattle.sift_mission.specs.Parts.{data_of}
use Rattle.sift_mission.proofs.mission.Mission.drift.Goals as goal

pub ticks_at-requires : goal.ticks_at-requires
ticks_at-requires c = rw c.parts.ensures.same (drift-low (data_of c.args.self.now) c.parts.ensures.fit c.args.u c.requires)
