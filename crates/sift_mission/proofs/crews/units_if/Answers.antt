use Rattle.std.proofs.Common.{ap, ◌∙◌, nat_cmp, sym, ◌&&◌}
use Rattle.std.specs.FinSet as set
use Rattle.sift_base.specs.Units.{holds, has}
use Rattle.sift_mission.proofs.Sayers.{beside_true, beside_false}
use Rattle.sift_mission.proofs.crews.units_if.Goals as goal

pub returns-then-all : goal.returns-then-all
returns-then-all c = λ u.
    c.units.ensures.set u ∙ beside_true (has c.args.config.now u)
    ∙ ap (λ t. has c.args.config.now u && t) (sym c.if-all.true)

pub returns-else-all : goal.returns-else-all
returns-else-all c = λ u.
    ap (λ units. holds units u) c.empty.ensures ∙ set.contains-empty nat_cmp u ∙ beside_false (has c.args.config.now u)
    ∙ ap (λ t. has c.args.config.now u && t) (sym c.if-all.false)
