use Rattle.std.proofs.Common.{◌≡◌, ◌∙◌, Some, None, sym, arith}
use Rattle.std.proofs.lemmas.Grind.{common_steps}
use Rattle.std.specs.Prelude.{codes}
use Rattle.toml.specs.Data.{get_member}
use Rattle.toml.specs.View.{table_view}
use Rattle.sift_base.specs.Layout.{least_units}
use Rattle.sift_base.specs.Units.{unit_limit}
use Rattle.sift_document.specs.laws.Numbers.{between_at}
use Rattle.sift_sections.proofs.table.read_table.Goals as goal

pub returns-in-Some-Some-Some-Some-clause-found : goal.returns-in-Some-Some-Some-Some-clause-found
returns-in-Some-Some-Some-Some-clause-found c = grind (arith, common_steps)

pub returns-in_default-clause-none : goal.returns-in_default-clause-none
returns-in_default-clause-none c = grind (arith, common_steps)

-- the positions are there, and the size is one of those that may be stated
pub returns-in-Some-Some-Some-Some-clause-whole : goal.returns-in-Some-Some-Some-Some-clause-whole
returns-in-Some-Some-Some-Some-clause-whole c none =
    let wrong : Some _ ≡ None = (rw c.in-Some-Some-Some-Some.is-3 at c.in_ok-at.ensures) ∙ none in cc wrong

pub overflow_cast-result : goal.overflow_cast-result
overflow_cast-result c =
    let stated = between_at least_units unit_limit (get_member (codes "size") (table_view c.args.table.now)) c.in-Some-Some-Some-Some.size
    (sym c.number_at-size.ensures ∙ c.in-Some-Some-Some-Some.is-0) in
    omega (arith, stated.1)
