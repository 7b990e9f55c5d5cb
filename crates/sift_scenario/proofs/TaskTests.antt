-- The rule of `task`, whose entries are tested one by one.
use Rattle.std.proofs.Common.{◌≡◌, ◌<◌, ◌≤◌, inr, List, length, Result, Ok, Err, subst}
use Rattle.sift_base.specs.declared.stop.Stop.{Stop}
use Rattle.sift_base.specs.declared.stop.Stop.TheVariants as stop
use Rattle.toml.specs.Data.{Data, Members}
use Rattle.sift_base.specs.Shapes.{task_limit}
use Rattle.sift_document.specs.Rules.{HoldsOf}
use Rattle.sift_document.specs.Testing.{RefusesBy, Tests}
use Rattle.sift_document.specs.declared.entries.BrokenRule.{BrokenRule}
use Rattle.sift_scenario.proofs.Testing.{keeps_tasks}
use Rattle.sift_document.specs.Document.{IsTableOf}
use Rattle.sift_scenario.proofs.Named.{task_keys}
use Rattle.sift_scenario.specs.Task.{task_entries, BreaksTasks}

module _ (document : Members) (entries : List Data) (same : entries ≡ task_entries document) (number : (0 < length entries) × (length entries ≤ task_limit)) where
  refused_task :
      (e : Stop BrokenRule) → RefusesBy 18 (λ place. HoldsOf entries place (λ entry. ¬ IsTableOf task_keys entry)) e
      → RefusesBy 18 (BreaksTasks document) e
  refused_task (stop.Refused broken) refused = (
    refused.0,
    record {
      broken = inr (subst (λ (es : List Data). HoldsOf es broken.place (λ entry. ¬ IsTableOf task_keys entry)) same refused.1.broken);
      first = λ at low. keeps_tasks document entries at same number (refused.1.first at low);
    },
  )
  refused_task stop.NoMemory refused = tt

  -- what tests the entries tests the rule
  pub tested_tasks :
      {A : Type 0} (r : Result A (Stop BrokenRule)) → Tests 18 (λ place. HoldsOf entries place (λ entry. ¬ IsTableOf task_keys entry)) r
      → Tests 18 (BreaksTasks document) r
  tested_tasks (Ok x) tests = λ place. keeps_tasks document entries place same number (tests place)
  tested_tasks (Err e) tests = refused_task e tests
