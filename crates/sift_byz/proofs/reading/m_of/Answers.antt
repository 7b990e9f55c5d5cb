use Rattle.std.proofs.Common.{sym, arith}
use Rattle.std.specs.Prelude.{codes}
use Rattle.toml.specs.Data.{get_member}
use Rattle.toml.specs.View.{table_view}
use Rattle.sift_document.specs.laws.Numbers.{between_at}
use Rattle.sift_byz.proofs.reading.m_of.Goals as goal

-- it is read within its limits
pub returns-clause-few : goal.returns-clause-few
returns-clause-few c = (between_at 0 2 (get_member (codes "m") (table_view c.args.document.now)) c.in_ok-m.m (sym c.in_ok-m.ensures)).1

pub overflow_cast-result : goal.overflow_cast-result
overflow_cast-result c = let few = (between_at 0 2 (get_member (codes "m") (table_view c.args.document.now)) c.in_ok-m.m (sym c.in_ok-m.ensures)).1 in omega (arith, few)

pub returns-in_err-m-clause-m : goal.returns-in_err-m-clause-m
returns-in_err-m-clause-m c = rw c.from_residual.ensures c.in_err-m.ensures

pub returns-clause-m : goal.returns-clause-m
returns-clause-m c = c.in_ok-m.ensures
