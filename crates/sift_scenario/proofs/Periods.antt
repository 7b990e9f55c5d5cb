-- How many subframes a frame has.
use Rattle.std.proofs.Common.{◌≡◌, ◌<◌, ◌≤◌, ◌+◌, ◌*◌, ℕ, length, Option, Some, None, inl, refl, arith}
use Rattle.std.specs.Prelude.{codes}
use Rattle.toml.specs.Data.{Data, Members, get_member}
use Rattle.sift_base.specs.Shapes.{task_limit}
use Rattle.sift_table.specs.Rules.{report_lead}
use Rattle.sift_table.specs.Schedule.{agreed_in, hearing_delay, shortest_period}
use Rattle.sift_document.specs.Document.{integer_between}
use Rattle.sift_document.specs.Rules.{AreKept}
use Rattle.sift_document.specs.laws.Numbers.{between, read_by}
use Rattle.sift_mission.specs.PartsFit.{longest_period}
use Rattle.sift_sections.specs.laws.Decided.{at_most, both, stable}
use Rattle.sift_scenario.specs.Root.{period_of}
use Rattle.sift_scenario.specs.Task.{task_entries, task_rules}

-- there are 1 to 24 tasks where the rules of the tasks are kept
pub task_number : (d : Members) → AreKept (task_rules d) → (0 < length (task_entries d)) × (length (task_entries d) ≤ task_limit)
task_number d kept = stable (both (at_most 1 (length (task_entries d))) (at_most (length (task_entries d)) 24)) (λ other. kept.0 0 (inl (refl, other)))

-- a period that is stated, or that of the plain table, lies between the shortest and the longest
by_cases :
    (tasks n : ℕ) (d : Option Data) → (0 < tasks) × (tasks ≤ task_limit)
    → read_by (agreed_in + hearing_delay * tasks + report_lead) (integer_between shortest_period longest_period) d ≡ Some n
    → (shortest_period ≤ n) × (n ≤ longest_period)
by_cases tasks n None number is = let same : agreed_in + hearing_delay * tasks + report_lead ≡ n = cc is in (omega (arith, same, number.0), omega (arith, same, number.1))
by_cases tasks n (Some d) number is = between shortest_period longest_period d n is

-- where the rules of the tasks are kept, a frame has 12 to 64 subframes, whether they are stated or those of the plain table
pub period_between : (d : Members) (n : ℕ) → AreKept (task_rules d) → period_of d ≡ Some n → (shortest_period ≤ n) × (n ≤ longest_period)
period_between d n kept is = by_cases (length (task_entries d)) n (get_member (codes "subframes") d) (task_number d kept) is
