use Rattle.std.proofs.Common.{refl}
use Rattle.sift_byz.proofs.lies.lie_entries.Goals as goal

-- the value of `lie` is there
pub returns-in-Some-clause-entries : goal.returns-in-Some-clause-entries
returns-in-Some-clause-entries c = rw (← c.in-Some.ensures) c.stated_entries.ensures.entries

pub returns-in-Some-clause-tests : goal.returns-in-Some-clause-tests
returns-in-Some-clause-tests c = rw (← c.in-Some.ensures) c.stated_entries.ensures.tests

-- it isn't
pub returns-in-None-clause-entries : goal.returns-in-None-clause-entries
returns-in-None-clause-entries c = rw (← c.in-None.ensures) refl
