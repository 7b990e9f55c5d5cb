use Rattle.std.proofs.Common.{◌≡◌, ◌≤◌, ◌-◌, ◌/◌, ◌^◌, ◌∙◌, ap, sym, length, arith}
use Rattle.std.proofs.lemmas.Bool.{eqb-true}
use Rattle.sift_base.specs.Units.{members, units_of}
use Rattle.sift_base.specs.laws.Sets.{len_of_members, few_members}
use Rattle.sift_config.specs.Config.{first_units}
use Rattle.sift_config.specs.laws.Lists.{first_bits}
use Rattle.sift_config.proofs.config.Config.is_unbroken.Goals as goal

-- there are four to eight
pub overflow_sub-result : goal.overflow_sub-result
overflow_sub-result c = omega (arith, len_of_members c.self.inside.units c.self.invariant.0, few_members c.self.inside.units, c.len.ensures)

pub overflow_shr-result : goal.overflow_shr-result
overflow_shr-result c =
    omega (arith, len_of_members c.self.inside.units c.self.invariant.0, few_members c.self.inside.units, c.self.invariant.1.enough, c.len.ensures)

pub returns-clause-few : goal.returns-clause-few
returns-clause-few c = omega (arith, few_members c.self.inside.units, ap length c.self.view_is)

-- the byte is that of the first units
pub returns-clause-first : goal.returns-clause-first
returns-clause-first c = λ same.
    let n = c.len.result in
    let long : length c.args.self.now ≡ n = omega (arith, len_of_members c.self.inside.units c.self.invariant.0, ap length c.self.view_is, c.len.ensures) in
    let few : n ≤ 8 = omega (arith, few_members c.self.inside.units, ap length c.self.view_is, long) in
    let enough : 4 ≤ n = omega (arith, c.self.invariant.1.enough, ap length c.self.view_is, long) in
    let byte : c.bits.result ≡ 255 / 2 ^ (8 - n) = eqb-true c.bits.result (255 / 2 ^ (8 - n)) same in
    sym c.self.view_is ∙ ap members (sym c.bits.ensures.back) ∙ ap (λ b. members (units_of b)) byte ∙ first_bits n enough few ∙ ap first_units (sym long)
