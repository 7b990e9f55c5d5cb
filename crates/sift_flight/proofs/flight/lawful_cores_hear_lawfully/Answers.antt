use Rattle.sift_flight.proofs.Landed.{lawful_cores_hear_lawfully}
use Rattle.sift_flight.proofs.flight.lawful_cores_hear_lawfully.Goals as goal

pub returns : goal.returns
returns c = lawful_cores_hear_lawfully
