use Rattle.std.proofs.Common.{slice_get, ◌∙◌, ap, sym, Some}
use Rattle.sift_base.specs.Units.{members}
use Rattle.sift_base.specs.laws.Sets.{lowest_is_first}
use Rattle.sift_base.proofs.units.UnitSet.first.Goals as goal

pub numbered-requires : goal.numbered-requires
numbered-requires c = (lowest_is_first c.self.inside.bits c.self.invariant (rw c.self.view_is c.requires)).0

pub returns : goal.returns
returns c =
    let first = lowest_is_first c.self.inside.bits c.self.invariant (rw c.self.view_is c.requires) in
    ap (λ units. slice_get (members units) 0) (sym c.self.view_is) ∙ first.1 ∙ ap (λ t. Some t) (sym c.numbered.ensures)
