use Rattle.std.proofs.Common.{sym}
use Rattle.sift_sections.proofs.clock.stated_clocks.Goals as goal

-- the value that is there is the one that was read
pub returns-in-Some-clause-read : goal.returns-in-Some-clause-read
returns-in-Some-clause-read c = rw (sym c.in-Some.ensures) c.stated_clock_plan.ensures.read

pub returns-in-Some-clause-tests : goal.returns-in-Some-clause-tests
returns-in-Some-clause-tests c = rw (sym c.in-Some.ensures) c.stated_clock_plan.ensures.tests
