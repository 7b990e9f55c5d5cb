use Rattle.std.proofs.Common.{◌+◌, ◌*◌, sym, arith}
use Rattle.std.specs.Prelude.{codes}
use Rattle.toml.specs.Data.{get_member}
use Rattle.toml.specs.View.{table_view}
use Rattle.sift_document.specs.laws.Numbers.{between_at}
use Rattle.sift_byz.proofs.reading.units_of.Goals as goal

-- it is read within its limits
pub returns-clause-few : goal.returns-clause-few
returns-clause-few c = (between_at (3 * c.from.result + 1) 10 (get_member (codes "units") (table_view c.args.document.now)) c.in_ok-units.units (sym c.in_ok-units.ensures)).1

pub overflow_cast-result : goal.overflow_cast-result
overflow_cast-result c =
    let few = (between_at (3 * c.from.result + 1) 10 (get_member (codes "units") (table_view c.args.document.now)) c.in_ok-units.units (sym c.in_ok-units.ensures)).1 in
    omega (arith, few)

pub returns-in_err-units-clause-units : goal.returns-in_err-units-clause-units
returns-in_err-units-clause-units c = rw c.from_residual.ensures (rw c.from.ensures at c.in_err-units.ensures)

pub returns-clause-units : goal.returns-clause-units
returns-clause-units c = rw c.from.ensures at c.in_ok-units.ensures
