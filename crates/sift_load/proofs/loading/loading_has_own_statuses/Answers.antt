use Rattle.sift_load.proofs.Loaded.{statuses_are_own}
use Rattle.sift_load.proofs.loading.loading_has_own_statuses.Goals as goal

pub returns : goal.returns
returns g c = λ means job. statuses_are_own (g.J.MissionJob.gives_for means job)
