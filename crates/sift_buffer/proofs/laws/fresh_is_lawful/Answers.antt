use Rattle.sift_buffer.proofs.Events.{fresh_lawful}
use Rattle.sift_buffer.proofs.laws.fresh_is_lawful.Goals as goal

pub returns : goal.returns
returns c = fresh_lawful
