use Rattle.std.proofs.Common.{sym}
use Rattle.sift_scenario.proofs.entries.sensors_of.Goals as goal

-- the value that is there is the one that was read
pub returns-in-Some-clause-tests : goal.returns-in-Some-clause-tests
returns-in-Some-clause-tests c = rw (sym c.in-Some.ensures) c.stated_sensors.ensures.tests
