use Rattle.std.proofs.Common.{◌-◌, length}
use Rattle.sift_mission.specs.Parts.{data_of}
use Rattle.sift_mission.proofs.FitTables.{table-low}
use Rattle.sift_mission.proofs.Held.{held-as}
use Rattle.sift_mission.proofs.mission.Mission.timetable.Goals as goal

pub returns : goal.returns
returns c =
    let held = held-as c.self.inside.parts c.args.self.now c.self.inside.slots c.self.inside.tasks.items c.self.inside.times c.self.inside.crews c.self.invariant c.self.view_is in
    rw c.crews_for.ensures.crews.table (held.times_are (length c.args.config.now - 4) _ (table-low (data_of c.args.self.now) held.fit c.args.config.now c.requires))
