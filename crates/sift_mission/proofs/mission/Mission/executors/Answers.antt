use Rattle.std.proofs.Common.{◌∙◌, ap}
use Rattle.sift_mission.specs.Parts.{data_of}
use Rattle.sift_mission.specs.Flown.{runs_in}
use Rattle.sift_mission.proofs.mission.Mission.executors.Goals as goal

pub returns : goal.returns
returns c = λ u. c.crew.ensures u ∙ ap (λ t. runs_in (data_of c.args.self.now) c.args.config.now t u) c.task_of.ensures.task
