use Rattle.std.proofs.Common.{◌∙◌, ap, arith}
use Rattle.sift_base.specs.Units.{holds}
use Rattle.sift_mission.proofs.mission.Mission.crew.Goals as goal

pub of_task-requires : goal.of_task-requires
of_task-requires c = omega (arith, c.requires.task, c.crews_for.ensures.few)

pub returns : goal.returns
returns c = λ u. ap (λ crew. holds crew u) c.of_task.ensures ∙ c.crews_for.ensures.crews.crews c.args.t c.of_task.result c.requires.task u
