use Rattle.std.proofs.Common.{ap, ◌∙◌, sym, ◌==◌}
use Rattle.std.proofs.lemmas.Nat.Bits.{shr_and_one}
use Rattle.sift_base.specs.laws.Sets.{holds_low}
use Rattle.sift_base.proofs.units.UnitSet.has.Goals as goal

pub returns : goal.returns
returns c =
    let bits = c.self.inside.bits in
    rw (← c.self.view_is, ← c.get.ensures.number) (ap (λ n. n == 1) (shr_and_one bits c.get.result) ∙ sym (holds_low bits c.get.result c.get.ensures.small))
