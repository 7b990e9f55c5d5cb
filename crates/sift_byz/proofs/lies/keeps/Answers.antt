use Rattle.sift_byz.proofs.Testing.{found_where}
use Rattle.sift_byz.proofs.lies.keeps.Goals as goal

-- it is a table with these keys
pub returns-in-Keys : goal.returns-in-Keys
returns-in-Keys c = rw c.in-Keys.is (found_where c.table_of.result _ c.is_some.ensures c.table_of.ensures.known c.table_of.ensures.none)

-- it has a path
pub returns-in-Path : goal.returns-in-Path
returns-in-Path c = rw c.in-Path.is c.has_path.ensures

-- it has receivers
pub returns-in-Receivers : goal.returns-in-Receivers
returns-in-Receivers c = rw c.in-Receivers.is c.has_receivers.ensures
