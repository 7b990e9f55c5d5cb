use Rattle.std.proofs.Common.{◌≡◌, ◌<◌, get_or, arith}
use Rattle.sift_mission.proofs.Rows.{words-there}
use Rattle.sift_mission.proofs.mission.Mission.sensed.Goals as goal

pub nonzero_rem-f : goal.nonzero_rem-f
nonzero_rem-f c =
    let row = c.index-words.result.now in
    let read : row ≡ get_or c.args.self.now.sensors.items c.args.x row = rw (← c.parts.ensures.same, ← c.from.ensures) c.index-words.ensures in
    omega (arith, words-there c.args.self.now c.parts.ensures.fit c.args.x c.requires.sensor row read, row.ok.0)

pub index-requires : goal.index-requires
index-requires c =
    let some : 0 < c.len.result = nonzero_rem-f c in
    omega (arith, c.len.ensures)
