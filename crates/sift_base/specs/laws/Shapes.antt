-- The output words of tasks.
use Rattle.std.proofs.Common.{◌≡◌, ◌+◌, List, ◌∷◌}
use Rattle.std.proofs.lemmas.List.Sums.{sum_by-cons}
use Rattle.sift_base.specs.Shapes.{Shape, words_in}

-- the words of one task more
pub words_in-cons : (task : Shape) (tasks : List Shape) → words_in (task ∷ tasks) ≡ task.outputs + words_in tasks
words_in-cons task tasks = sum_by-cons (λ t. t.outputs) task tasks
