use Rattle.std.proofs.Common.{◌||◌, nat_cmp, ap, ◌∙◌, arith}
use Rattle.std.specs.FinSet as set
use Rattle.std.specs.Cmp.{nat_cmp_total}
use Rattle.sift_base.specs.Units.{holds}
use Rattle.sift_unit_frame.specs.Memory.{units_at}
use Rattle.sift_unit_frame.proofs.Memories.{set_at}
use Rattle.sift_unit_frame.proofs.Tests.{any-more}
use Rattle.sift_unit_frame.proofs.tidings.union_of.Goals as goal

pub loop-i-init : goal.loop-i-init
loop-i-init c = λ v. ap (λ units. holds units v) c.empty-all.ensures ∙ set.contains-empty nat_cmp v

-- one set more
pub loop-i-preserved : goal.loop-i-preserved
loop-i-preserved c = λ v.
    ap (λ units. holds units v) c.union-all.ensures ∙ set.contains-union nat_cmp_total c.loop-i.all c.index-sets-i.result v
    ∙ (λ i. c.loop-i.invariant v i || holds (set_at c.args.sets.now c.loop-i.i c.index-sets-i.result (let low = c.loop-i-test.true in let all = c.requires in omega arith) c.index-sets-i.is i) v)
    ∙ any-more c.loop-i.i (λ i. holds (units_at c.args.sets.now i) v)
