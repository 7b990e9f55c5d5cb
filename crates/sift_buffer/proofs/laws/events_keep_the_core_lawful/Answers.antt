use Rattle.sift_buffer.proofs.Events.{events_keep}
use Rattle.sift_buffer.proofs.laws.events_keep_the_core_lawful.Goals as goal

pub returns : goal.returns
returns c = events_keep
