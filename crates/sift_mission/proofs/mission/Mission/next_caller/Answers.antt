use Rattle.sift_base.specs.Units.{holds}
use Rattle.sift_mission.specs.Parts.{flown_of}
use Rattle.sift_mission.specs.Slots.{calls}
use Rattle.sift_mission.proofs.Sayers.{first_by}
use Rattle.sift_mission.proofs.mission.Mission.next_caller.Goals as goal

pub returns : goal.returns
returns c =
    let m = flown_of c.args.self.now in
    first_by (holds c.callers.result) (λ p. calls m c.args.config.now (m.kind c.args.i) p c.args.to) c.args.from c.first_from.result c.callers.ensures c.first_from.ensures
