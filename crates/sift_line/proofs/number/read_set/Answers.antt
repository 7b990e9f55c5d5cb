use Rattle.std.proofs.Common.{◌≡◌, Some, ap, ◌∙◌}
use Rattle.sift_base.specs.Units.{members}
use Rattle.sift_line.proofs.Sets.{members_up, same_members}
use Rattle.sift_line.proofs.Results.{held}
use Rattle.sift_line.proofs.number.read_set.Goals as goal

pub returns-in_err-units-clause-exact : goal.returns-in_err-units-clause-exact
returns-in_err-units-clause-exact c = λ units are e.
    let none = c.in_err-units.ensures.exact (record { items = members units }) (members_up units) e in (cc)

pub returns-clause-exact : goal.returns-clause-exact
returns-clause-exact c = λ units are e.
    let read = held c.in_ok-units.units (record { items = members units }) (c.in_ok-units.ensures.exact (record { items = members units }) (members_up units) e) in
    let same : members c.set_of.result ≡ members units = c.set_of.ensures.members ∙ c.deref.ensures.0 ∙ ap (λ list. list.items) read in
    ap Some (same_members c.set_of.result units c.set_of.ensures.units are same)
