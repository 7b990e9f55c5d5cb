use Rattle.sift_flight.proofs.CalmCount.{count_flies}
use Rattle.sift_flight.proofs.CalmGauge.{gauge_flies}
use Rattle.sift_flight.proofs.flight.calm_missions_fly.Goals as goal

pub returns : goal.returns
returns c = record { count_flies = count_flies; gauge_flies = gauge_flies }
