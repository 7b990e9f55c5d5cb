use Rattle.std.proofs.Common.{◌≡◌, ℕ, ◌<◌, List, [], ◌∷◌, ◌++◌, length, Vec, Global, ℤ, sym, subst, ◌∙◌, w64, to_z, of_z, arith}
use Rattle.std.proofs.lemmas.Int.{ints}
use Rattle.std.proofs.lemmas.Grind.{common_steps}
use Rattle.sift_skew.specs.Figures.{AreInRange, IsSkew}
use Rattle.sift_clocklab.proofs.Figures.{row_has_skew, skew_small, skew_there, skews_more}
use Rattle.sift_clocklab.proofs.printing.skews_of.Goals.{in-Some+in_ok-push, in_default}
use Rattle.sift_clocklab.proofs.printing.skews_of.Goals as goal

-- figures are told of the offsets
pub skew-requires : goal.skew-requires
skew-requires c =
    let row = c.row-item.result in
    let told = row_has_skew (λ (r : Vec ℤ Global). r.items) c.args.rows.now c.loop-row.row-index row (omega arith) c.row-item.is
    c.requires in
    subst AreInRange (sym c.deref.ensures.value) told.in_range

-- one list more, and its skew
pub loop-row-preserved : goal.loop-row-preserved
loop-row-preserved c =
    let rows = c.args.rows.now in
    let at : ℕ = c.loop-row.row-index in
    let row = c.row-item.result in
    let told = row_has_skew (λ (r : Vec ℤ Global). r.items) rows at row (omega arith) c.row-item.is c.requires in
    let below : at < length rows = omega arith in
    elim c.match-skew.branch [
      | in-Some+in_ok-push w ↦
          let figure : IsSkew row.items w.in-Some.apart =
          subst (λ (os : List ℤ). IsSkew os w.in-Some.apart) c.deref.ensures.value w.in-Some.ensures in
          let small = skew_small row.items w.in-Some.apart told figure in
          let held : to_z w64 (of_z w64 w.in-Some.apart) ≡ w.in-Some.apart = omega (arith, ints, small) in
          let one = (λ i. (w.skews-is i).items) ∙ (w.in_ok-push.ensures.items ∙ (λ i. c.loop-row.skews.items ++ held i ∷ [])) in
          skews_more (λ (r : Vec ℤ Global). r.items) rows at row c.loop-row.skews.items c.match-skew.skews.items w.in-Some.apart below
          c.row-item.is c.loop-row.invariant one figure
      | in_default w ↦ absurd (skew_there row.items told (sym c.deref.ensures.value ∙ w.in_default.ensures))
    ]

pub returns : goal.returns
returns c = grind (arith, common_steps)
