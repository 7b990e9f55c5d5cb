use Rattle.std.proofs.Common.{sym}
use Rattle.sift_mission.specs.Parts.{flown_of}
use Rattle.sift_unit_frame.specs.Memory.{is_made_by}
use Rattle.sift_unit_frame.specs.Memories.{memory_of}
use Rattle.sift_unit_frame.proofs.InTurn.{renewed-none, made_not}
use Rattle.sift_unit_frame.proofs.memory.Memory.run.Goals as goal

-- nothing is made by a unit that doesn't run the task
pub returns-else-runs-clause-made : goal.returns-else-runs-clause-made
returns-else-runs-clause-made c =
    let m = flown_of c.args.mission.now in
    let us = c.args.config.now in
    let b = memory_of c.args.self.now in
    let u = c.args.unit in
    let t = c.args.task in
    let same = renewed-none (is_made_by m us u t) (λ w. m.word w b.ins b.outs c.args.self.now.words.before) b.made 0 (made_not m us u t c.runs.result c.runs.ensures.words c.if-runs.false) in
    λ i. record b { made = sym same i }
