use Rattle.std.proofs.Common.{◌≡◌, ◌∙◌, [], length, get_or, ap, arith, subst}
use Rattle.std.proofs.lemmas.Grind.{common_steps}
use Rattle.sift_byz.specs.Plan.{IsSquare}
use Rattle.sift_byz.proofs.vectors.Vectors.row.Goals as goal

-- each vector is as long as there are vectors
pub returns-clause-long : goal.returns-clause-long
returns-clause-long c =
    let is : c.deref.result.now ≡ get_or c.args.self.now c.args.q [] = grind (arith, common_steps) in
    let square : IsSquare c.args.self.now = subst IsSquare c.self.view_is c.self.invariant in
    ap length is ∙ square c.args.q [] c.requires
