use Rattle.std.proofs.Common.{sym}
use Rattle.sift_scenario.proofs.mission.good_table.Goals as goal

-- the table is good
pub returns-in-Ok-clause-same : goal.returns-in-Ok-clause-same
returns-in-Ok-clause-same c = c.in-Ok.ensures.same

pub returns-in-Ok-clause-good : goal.returns-in-Ok-clause-good
returns-in-Ok-clause-good c = c.in-Ok.ensures.good

-- it isn't
pub returns-in-Err-clause-refused : goal.returns-in-Err-clause-refused
returns-in-Err-clause-refused c = (sym c.from-size.ensures, rw (c.from-in-Err.ensures, c.from.ensures) c.in-Err.ensures.broken)
