use Rattle.std.proofs.Common.{arith}
use Rattle.std.proofs.lemmas.List.{length-map}
use Rattle.sift_lang.specs.Tree.{tree_of}
use Rattle.sift_mission.specs.Parts.{data_of}
use Rattle.sift_mission.proofs.FitTasks.{counted}
use Rattle.sift_mission.proofs.mission.Mission.tasks.Goals as goal

pub returns-clause-few : goal.returns-clause-few
returns-clause-few c =
    let counted = counted (data_of c.args.self.now) c.parts.ensures.fit in
    let tasks = counted.tasks in let words = counted.words in
    rw (c.len.ensures, c.parts.ensures.same) (omega (arith, length-map c.args.self.now.program.tasks.items tree_of, c.args.self.now.program.tasks.ok.0))
