use Rattle.sift_mission.proofs.Rows.{start-low}
use Rattle.sift_mission.specs.Parts.{data_of}
use Rattle.sift_mission.proofs.mission.Mission.offset.Goals as goal

pub ticks_at-requires : goal.ticks_at-requires
ticks_at-requires c = rw c.parts.ensures.same (start-low (data_of c.args.self.now) c.parts.ensures.fit c.args.u c.requires)
