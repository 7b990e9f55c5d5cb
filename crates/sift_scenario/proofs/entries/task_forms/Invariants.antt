use Rattle.std.proofs.Common.{◌≡◌, ◌<◌, ◌≤◌, ℕ, map, length, vec_capacity}
use Rattle.toml.specs.View.{table_view}
use Rattle.sift_document.specs.Rules.{EachMatches}
use Rattle.sift_scenario.specs.Task.{HasForm}
use Rattle.sift_scenario.specs.Testing.{form_of}
use Rattle.sift_scenario.proofs.Named.{BreaksForms}
use Rattle.sift_scenario.proofs.entries.task_forms.Given as goal

-- the forms of the tasks so far, none of which breaks the rule
abbrev pub invariant-loop-place : goal.invariant-loop-place
invariant-loop-place l =
    (length l.forms.items ≡ l.place)
    × (length l.tasks ≤ vec_capacity l.forms)
    × EachMatches (λ place task form. HasForm task form) (map (λ task. table_view task.now) l.tasks) (map form_of l.forms.items)
    × ((at : ℕ) → at < l.place → ¬ BreaksForms (map (λ task. table_view task.now) l.tasks) at)
