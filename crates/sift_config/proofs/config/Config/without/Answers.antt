use Rattle.std.proofs.Common.{◌≡◌, ◌∙◌, ap, length, arith}
use Rattle.sift_base.specs.Units.{members, AreUnits}
use Rattle.sift_base.specs.laws.Sets.{len_of_members}
use Rattle.sift_config.specs.Config.{remaining}
use Rattle.sift_config.specs.laws.Lists.{members-difference, difference_are_units, remaining_are_config}
use Rattle.sift_config.proofs.config.Config.without.Goals as goal

pub returns-then-len-lt4-clause-none : goal.returns-then-len-lt4-clause-none
returns-then-len-lt4-clause-none c =
    let are : AreUnits c.minus-units.result = rw c.minus-units.ensures (difference_are_units c.self.inside.units c.args.gone c.self.invariant.0) in
    let rest : members c.minus-units.result ≡ remaining c.args.self.now c.args.gone =
    ap members c.minus-units.ensures ∙ members-difference c.self.inside.units c.args.gone ∙ ap (λ us. remaining us c.args.gone) c.self.view_is in
    omega (arith, ap length rest, len_of_members c.minus-units.result are, c.len.ensures, c.if-len-lt4.true)

pub invariant_of-result : goal.invariant_of-result
invariant_of-result c =
    let are : AreUnits c.minus-units.result = rw c.minus-units.ensures (difference_are_units c.self.inside.units c.args.gone c.self.invariant.0) in
    let rest : members c.minus-units.result ≡ remaining (members c.self.inside.units) c.args.gone =
    ap members c.minus-units.ensures ∙ members-difference c.self.inside.units c.args.gone in (
      are,
      rw rest (remaining_are_config (members c.self.inside.units) c.args.gone c.self.invariant.1
          (omega (arith, ap length rest, len_of_members c.minus-units.result are, c.len.ensures, c.if-len-lt4.false))),
    )

pub returns-clause-found : goal.returns-clause-found
returns-clause-found c = ap members c.minus-units.ensures ∙ members-difference c.self.inside.units c.args.gone ∙ ap (λ us. remaining us c.args.gone) c.self.view_is
