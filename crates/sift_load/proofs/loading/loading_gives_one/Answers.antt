use Rattle.sift_load.proofs.Loaded.{one_reply}
use Rattle.sift_load.proofs.loading.loading_gives_one.Goals as goal

pub returns : goal.returns
returns g c = λ means job.
    one_reply c.one_mission.ensures c.missions_are_accepted.ensures c.one_refusal.ensures (g.J.MissionJob.gives_for means job)
