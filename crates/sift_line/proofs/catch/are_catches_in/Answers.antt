use Rattle.std.proofs.Common.{List, ◌≡◌, ◌∙◌, subst}
use Rattle.std.specs.Bool.{Decides}
use Rattle.std.proofs.lemmas.Slice.Eq.{slice_eq-Decides}
use Rattle.sift_line.specs.declared.catch.Catch.{Catch}
use Rattle.sift_line.proofs.Catches.{catch_decides}
use Rattle.sift_line.proofs.catch.are_catches_in.Goals as goal

pub returns : goal.returns
returns c =
    subst (λ (list : List Catch). Decides c.eq.result (c.args.list.now ≡ list)) (c.as_slice.ensures.value ∙ c.catches_in.ensures)
    (slice_eq-Decides catch_decides c.args.list.now c.as_slice.result.now c.eq.result c.eq.ensures)
