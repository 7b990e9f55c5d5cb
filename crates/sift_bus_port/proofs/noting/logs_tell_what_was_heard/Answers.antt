use Rattle.sift_bus_port.proofs.Telling.{logs_tell}
use Rattle.sift_bus_port.proofs.noting.logs_tell_what_was_heard.Goals as goal

pub returns : goal.returns
returns g c = logs_tell g.B.Bus.allows
