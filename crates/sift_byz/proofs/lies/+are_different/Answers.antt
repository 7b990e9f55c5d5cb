use Rattle.std.proofs.Common.{refl, arith}
use Rattle.std.proofs.lemmas.List.{nil_from_length}
use Rattle.std.proofs.lemmas.Grind.{common_steps}
use Rattle.sift_byz.proofs.lies.+are_different.Goals as goal

pub returns-else-not-contains : goal.returns-else-not-contains
returns-else-not-contains c = grind (arith, common_steps)

-- no unit stands in an empty list
pub returns-in-empty : goal.returns-in-empty
returns-in-empty t c =
    let nil = nil_from_length c.args.list.now (omega (arith, c.in-empty.len_below)) in
    (λ _. rw nil tt, λ _. refl)
