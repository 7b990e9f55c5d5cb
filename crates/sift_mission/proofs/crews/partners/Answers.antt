use Rattle.std.proofs.Common.{◌∙◌, ap, sym, nat_cmp, not, nat_eq, ◌&&◌}
use Rattle.std.specs.FinSet as set
use Rattle.sift_base.specs.Units.{holds}
use Rattle.sift_base.specs.laws.Sets.{holds-remove}
use Rattle.sift_mission.proofs.crews.partners.Goals as goal

-- a unit that isn't of its side has none
pub returns-then-not-has : goal.returns-then-not-has
returns-then-not-has c = λ u.
    ap (λ units. holds units u) c.empty.ensures ∙ set.contains-empty nat_cmp u
    ∙ ap (λ t. t && (not (nat_eq u c.args.unit) && holds c.args.other u)) (sym (sym c.has.ensures ∙ c.if-not-has.true))

-- one that is has the others of the other side
pub returns : goal.returns
returns c = λ u.
    ap (λ units. holds units u) c.without.ensures ∙ holds-remove c.args.other c.args.unit u
    ∙ ap (λ t. t && (not (nat_eq u c.args.unit) && holds c.args.other u)) (sym (sym c.has.ensures ∙ c.if-not-has.false))
