use Rattle.std.proofs.Common.{length, List, map, Vec, Global, ℤ, ap, arith}
use Rattle.std.proofs.lemmas.Grind.{common_steps}
use Rattle.sift_clocklab.proofs.Figures.{length-skews}
use Rattle.sift_clocklab.proofs.printing.lab_text.Goals as goal

-- there is a round at least
pub largest-requires : goal.largest-requires
largest-requires c =
    let offsets_in = λ (rows : List (Vec ℤ Global)). map (λ (row : Vec ℤ Global). row.items) rows in
    let skews = length-skews (offsets_in c.deref.result.now) c.in_ok-skews.skews.items c.in_ok-skews.ensures in
    let rows = ap (λ (rows : List (Vec ℤ Global)). length (offsets_in rows)) c.deref.ensures.value in
    omega (arith, skews, rows, c.requires.kept.lists, ap length c.deref-3.ensures.value)

pub skews_of-requires : goal.skews_of-requires
skews_of-requires c = grind (arith, common_steps)
