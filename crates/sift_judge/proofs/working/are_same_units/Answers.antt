use Rattle.std.proofs.Common.{◌∙◌, ap, eq-eqb, eqb-true, sym}
use Rattle.sift_base.specs.Units.{bits_of, members, units_of}
use Rattle.sift_base.specs.laws.Sets.{members_are}
use Rattle.sift_judge.proofs.UnitSets.{one_set}
use Rattle.sift_judge.proofs.working.are_same_units.Goals as goal

pub returns : goal.returns
returns c =
    let a = c.args.units in
    let b = c.args.others in (
      (λ t. ap members (sym c.bits.ensures.back ∙ ap units_of (eqb-true c.bits.result c.bits-2.result t) ∙ c.bits-2.ensures.back)),
      (λ same. let one = ap bits_of (one_set a b c.bits.ensures.units c.bits-2.ensures.units members_are same) in
          eq-eqb c.bits.result c.bits-2.result (c.bits.ensures.byte ∙ one ∙ sym c.bits-2.ensures.byte)),
    )
